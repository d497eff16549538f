use Rattle.std.proofs.Common.{subst}
use Rattle.streetmap_geojson.specs.FeatureInvariant.{IsFeature}
use Rattle.streetmap_geojson.proofs.Facts.{feature_made, geometry_made, interval_made}
use Rattle.streetmap_geojson.proofs.feature.Feature.facts.Goals as goal

pub returns : goal.returns
returns c = subst IsFeature c.self.view_is (feature_made _ c.self.invariant c.as_str.ensures.named c.as_str.ensures.text (geometry_made c.self.inside.geometry) (interval_made c.self.inside.time))
