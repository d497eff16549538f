use Rattle.std.proofs.Common.{◌≡◌, ◌++◌, map}
use Rattle.streetmap_geojson.specs.FeatureView.{feature_value}
use Rattle.streetmap_batch.specs.BatchView.{edit_values}
use Rattle.streetmap_exchange.specs.Imports.{edit_of}
use Rattle.streetmap_exchange.proofs.imports.make_edits.Given as goal

-- the edits so far, and those of the features that are left, are all
abbrev pub invariant-loop-feature : goal.invariant-loop-feature
invariant-loop-feature g l =
    edit_values l.edits.items ++ map (edit_of l.replace l.collection) (map feature_value l.feature-iterator.rest.items)
    ≡ map (edit_of l.replace l.collection) (map feature_value l.fn.features.items)
