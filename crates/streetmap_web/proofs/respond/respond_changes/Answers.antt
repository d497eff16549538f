use Rattle.std.proofs.Common.{List, ap, ◌∙◌, arith}
use Rattle.streetmap_http.specs.declared.answer_head.MediaType.TheVariants.{Journal}
use Rattle.streetmap_bodies.specs.Changes.{changes_text}
use Rattle.streetmap_ledger.specs.Kept.{KeyedBatch}
use Rattle.streetmap_ledger.specs.KeptView.{keyed_batches}
use Rattle.streetmap_web.specs.Response.{found}
use Rattle.streetmap_web.proofs.ReadResponses.{found_responds, failed_responds, changes_read}
use Rattle.streetmap_web.proofs.respond.respond_changes.Goals as goal

pub returns-in-Ok : goal.returns-in-Ok
returns-in-Ok g c root =
    let all = λ (batches : List KeyedBatch). found Journal (changes_text batches) in
    found_responds root _ (changes_read root c.args.after c.args.limit) c.found_changes.result c.or_starved.result (all (keyed_batches c.as_slice.result.now)) c.in-Ok.ensures
    c.found_changes.ensures c.or_starved.ensures.ok c.or_starved.ensures.err (λ s is. ap all (ap keyed_batches c.as_slice.ensures.value ∙ is))
    (λ e. absurd (omega (arith, e)))

pub returns-in-Err : goal.returns-in-Err
returns-in-Err g c root = failed_responds _ _ (changes_read root c.args.after c.args.limit) c.in-Err.fault c.in-Err.ensures
