use Rattle.streetmap_rows.proofs.ResultCases.{handed_on}
use Rattle.streetmap_reading.specs.Views.{IsHeadRow}
use Rattle.streetmap_reading.proofs.OneRowMore.{not_taken, one_head_more}
use Rattle.streetmap_reading.proofs.summaries.VecSummaryRowFold.take.Goals as goal

pub returns : goal.returns
returns c = λ start rows held.
    one_head_more c.args.self.now.items c.push.new.self.items c.in_ok-head.head rows
    c.args.row.now c.in_ok-push.ensures.items held c.in_ok-head.ensures.reads

pub returns-in_err-head : goal.returns-in_err-head
returns-in_err-head c = λ start rows held.
    let reported = c.in_err-head.ensures in
    handed_on _ _ _ _ c.from_residual.ensures.1
    (not_taken IsHeadRow rows c.args.row.now _ reported.refuses
    (λ it. reported.reads it.id it.collection it.is it.fine))
