use Rattle.std.proofs.Common.{List, drop, take}
use Rattle.streetmap_grid.specs.Bounds.{AreBounds}
use Rattle.streetmap_grid.specs.Values.{PositionValue}
use Rattle.streetmap_geojson.specs.FeatureValue.{FeatureValue}
use Rattle.streetmap_ledger.specs.State.{Features}
use Rattle.streetmap_outlines.specs.Outlines.{AllLieWithin}
use Rattle.streetmap_outlines.specs.Outlines.{Pairs}
use Rattle.streetmap_outlines.proofs.Extents.{Growing}
use Rattle.streetmap_outlines.proofs.bounds.grown.Given as goal

-- the bounds are of the earlier positions and of the features met so far, which lie within them
abbrev pub invariant-loop-outline : goal.invariant-loop-outline
invariant-loop-outline l = record {
  exact : (features : Features) (ps : List PositionValue) (fs : List FeatureValue) → Pairs features l.outlines fs → AreBounds ps l.fn.bounds →
      Growing ps l.bounds features fs (drop l.outline-index l.outlines);
  within : AllLieWithin (take l.outline-index l.outlines) l.bounds;
}
