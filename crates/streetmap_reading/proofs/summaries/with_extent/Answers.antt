use Rattle.streetmap_rows.proofs.ReadsInTurn.{reads_on, reads_failed}
use Rattle.streetmap_reading.proofs.OneRowMore.{extended}
use Rattle.streetmap_reading.proofs.summaries.with_extent.Goals as goal

pub returns : goal.returns
returns g c =
    reads_on c.in_ok-extent.ensures (λ clean shows s limit keeps.
    let reported = shows s limit keeps in
    (extended s c.args.head c.as_str.result.now c.in_ok-extent.extent c.as_str.ensures.value reported.0, reported.1))

pub returns-in_err-extent : goal.returns-in_err-extent
returns-in_err-extent g c = reads_failed c.in_err-extent.ensures c.from_residual.ensures.1
