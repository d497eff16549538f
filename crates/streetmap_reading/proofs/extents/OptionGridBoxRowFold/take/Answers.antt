use Rattle.streetmap_rows.proofs.ResultCases.{handed_on}
use Rattle.streetmap_reading.specs.Views.{feature_extent, IsExtentRow}
use Rattle.streetmap_reading.proofs.PositionBounds.{extent_is_box}
use Rattle.streetmap_reading.proofs.OneRowMore.{not_taken, wider_bounds}
use Rattle.streetmap_reading.proofs.extents.OptionGridBoxRowFold.take.Goals as goal

pub returns : goal.returns
returns c = λ start rows held.
    wider_bounds rows c.args.row.now c.args.self.now c.in_ok-extent.extent c.bounds_of_both.result
    held (λ f is fine. c.in_ok-extent.ensures.reads (feature_extent f) is
    (extent_is_box f.geometry fine)) c.bounds_of_both.ensures

pub returns-in_err-extent : goal.returns-in_err-extent
returns-in_err-extent c = λ start rows held.
    let reported = c.in_err-extent.ensures in
    handed_on _ _ _ _ c.from_residual.ensures.1
    (not_taken IsExtentRow rows c.args.row.now _ reported.refuses (λ it. absurd
    (reported.reads (feature_extent it.feature) it.is (extent_is_box it.feature.geometry it.fine))))
