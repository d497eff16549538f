use Rattle.streetmap_rows.proofs.ResultCases.{handed_on}
use Rattle.streetmap_reading.specs.Views.{IsOutlineRow}
use Rattle.streetmap_reading.proofs.OneRowMore.{not_taken, outlines_more}
use Rattle.streetmap_reading.proofs.outlines.VecFeatureOutlineRowFold.take.Goals as goal

pub returns : goal.returns
returns c = λ start rows held.
    outlines_more c.args.self.now c.push.new.self c.in_ok-outline.outline rows c.args.row.now
    c.in_ok-push.ensures.items held c.in_ok-outline.ensures.reads

pub returns-in_err-outline : goal.returns-in_err-outline
returns-in_err-outline c = λ start rows held.
    let reported = c.in_err-outline.ensures in
    handed_on _ _ _ _ c.from_residual.ensures.1
    (not_taken IsOutlineRow rows c.args.row.now _ reported.refuses
    (λ it. reported.reads it.placed it.is it.fine))
