use Rattle.std.proofs.Common.{◌≡◌, List, ◌++◌}
use Rattle.std.specs.Map.{values_of}
use Rattle.streetmap_geojson.specs.FeatureValue.{FeatureValue}
use Rattle.streetmap_query.specs.Views.{query_value}
use Rattle.streetmap_ledger.specs.Folds.{HoldsCandidates}
use Rattle.streetmap_memory.specs.Slots.{live_values}
use Rattle.streetmap_memory.proofs.collection.page_over.Given as goal

-- the features met so far and those that are left are all
abbrev pub invariant-loop-slot : goal.invariant-loop-slot
invariant-loop-slot l =
    (fs : List FeatureValue) × (fs ++ live_values l.slot-iterator ≡ live_values (values_of l.slots.entries)) × HoldsCandidates (query_value l.query) l.fold fs
