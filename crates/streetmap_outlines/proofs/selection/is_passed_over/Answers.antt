use Rattle.std.proofs.Common.{◌≡◌, Bool, true, false, not, IsTrue, ap, sym, refl, ◌∙◌}
use Rattle.streetmap_ledger.specs.Outlines.{FeatureOutlineValue}
use Rattle.streetmap_outlines.proofs.Covering.{spanning, spanning_extent, none_passes}
use Rattle.streetmap_outlines.proofs.selection.is_passed_over.Goals as goal

none_overlaps : (b : Bool) → IsTrue (not b) → b ≡ false
none_overlaps false passed = refl
none_overlaps true passed = absurd cc

pub returns : goal.returns
returns c = λ passed outline f within known.
    let bounds = c.args.chunk.now.bounds in
    let off : c.overlaps_box.result ≡ false = none_overlaps c.overlaps_box.result passed in
    let extent = ap (λ (v : FeatureOutlineValue). v.extent) known in
    let none = none_passes outline.extent bounds c.args.query.now.bbox f.geometry (spanning bounds) within extent (spanning_extent bounds)
    (sym (c.overlaps_box.ensures (spanning bounds) (spanning_extent bounds)) ∙ off) in
    rw none refl
