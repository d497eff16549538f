use Rattle.std.proofs.Common.{List, ap, ◌∙◌, arith}
use Rattle.serde_json.specs.Written.{compact_text}
use Rattle.streetmap_http.specs.declared.answer_head.MediaType.TheVariants.{Json}
use Rattle.streetmap_bodies.specs.Bodies.{collections_data}
use Rattle.streetmap_ledger.specs.SummaryView.{summary_values}
use Rattle.streetmap_ledger.specs.Summaries.{SummaryValue}
use Rattle.streetmap_web.specs.Response.{found}
use Rattle.streetmap_web.proofs.ReadResponses.{found_responds, failed_responds, collections_read}
use Rattle.streetmap_web.proofs.respond.respond_collections.Goals as goal

pub returns-in-Ok : goal.returns-in-Ok
returns-in-Ok g c =
    let root = c.args.root.now in
    let all = λ (summaries : List SummaryValue). found Json (compact_text (collections_data root summaries)) in
    found_responds root _ (collections_read root) c.found_collections.result c.or_starved.result (all (summary_values c.as_slice.result.now)) c.in-Ok.ensures
    c.found_collections.ensures c.or_starved.ensures.ok c.or_starved.ensures.err (λ s is. ap all (ap summary_values c.as_slice.ensures.value ∙ is))
    (λ e. absurd (omega (arith, e)))

pub returns-in-Err : goal.returns-in-Err
returns-in-Err g c = failed_responds _ _ (collections_read c.args.root.now) c.in-Err.fault c.in-Err.ensures
