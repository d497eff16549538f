use Rattle.std.proofs.Common.{List, [], drop}
use Rattle.streetmap_geojson.specs.FeatureValue.{FeatureValue}
use Rattle.streetmap_ledger.specs.State.{Features}
use Rattle.streetmap_outlines.specs.Outlines.{joined, AreBounded}
use Rattle.streetmap_outlines.specs.Outlines.{Pairs}
use Rattle.streetmap_outlines.proofs.Extents.{Growing}
use Rattle.streetmap_index.proofs.summaries.extent_of.Given as goal

abbrev pub invariant-loop-chunk : goal.invariant-loop-chunk
invariant-loop-chunk l = AreBounded l.chunks → (features : Features) (fs : List FeatureValue) → Pairs features (joined l.chunks) fs →
    Growing [] l.bounds features fs (joined (drop l.chunk-index l.chunks))
