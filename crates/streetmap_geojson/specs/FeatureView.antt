use Rattle.streetmap_geojson.specs.FeatureValue.{FeatureValue}
use Rattle.streetmap_geojson.specs.declared.feature.Feature.{Feature}

-- a feature is seen as what it says
abbrev pub feature_value : Feature → FeatureValue
feature_value f = f
