use Rattle.std.proofs.Common.{ap, arith}
use Rattle.serde_json.specs.Data.{Data}
use Rattle.serde_json.specs.Written.{compact_text}
use Rattle.streetmap_http.specs.declared.answer_head.MediaType.TheVariants.{Json}
use Rattle.streetmap_web.specs.Response.{found}
use Rattle.streetmap_web.specs.StatusView.{status_value}
use Rattle.streetmap_web.proofs.ReadResponses.{found_responds, failed_responds, status_reads}
use Rattle.streetmap_web.proofs.status.respond_status.Goals as goal

pub returns-in-Ok : goal.returns-in-Ok
returns-in-Ok g c root =
    let all = λ (status : Data). found Json (compact_text status) in
    found_responds root _ (status_reads root) c.found_status.result c.or_starved.result (all (status_value c.in-Ok.status)) c.in-Ok.ensures
    c.found_status.ensures c.or_starved.ensures.ok c.or_starved.ensures.err (λ s is. ap all is) (λ e. absurd (omega (arith, e)))

pub returns-in-Err : goal.returns-in-Err
returns-in-Err g c root = failed_responds _ _ (status_reads root) c.in-Err.fault c.in-Err.ensures
