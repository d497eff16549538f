use Rattle.std.proofs.Common.{◌≡◌, List, ◌++◌}
use Rattle.std.specs.Map.{values_of}
use Rattle.streetmap_grid.specs.Bounds.{AreBounds}
use Rattle.streetmap_geojson.specs.FeatureValue.{FeatureValue}
use Rattle.streetmap_memory.specs.Slots.{live_values}
use Rattle.streetmap_ledger.specs.Summaries.{all_vertices}
use Rattle.streetmap_memory.proofs.collection.bounds_of.Given as goal

-- the features met so far and those that are left are all
abbrev pub invariant-loop-slot : goal.invariant-loop-slot
invariant-loop-slot l =
    (fs : List FeatureValue) × (fs ++ live_values l.slot-iterator ≡ live_values (values_of l.slots.entries)) × AreBounds (all_vertices fs) l.bounds
