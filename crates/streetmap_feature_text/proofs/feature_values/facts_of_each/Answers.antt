use Rattle.std.proofs.Common.{sym, subst}
use Rattle.std.proofs.lemmas.List.{take_all}
use Rattle.std.proofs.lemmas.List.Elements.{All-more, All-same}
use Rattle.streetmap_geojson.specs.FeatureValue.{FeatureValue}
use Rattle.streetmap_geojson.specs.FeatureView.{feature_value}
use Rattle.streetmap_geojson.specs.FeatureInvariant.{IsFeature}
use Rattle.streetmap_feature_text.proofs.feature_values.facts_of_each.Goals as goal

pub loop-feature-preserved : goal.loop-feature-preserved
loop-feature-preserved c =
    All-more (λ f. IsFeature (feature_value f)) c.args.features.now c.loop-feature.feature-index c.feature-item.result c.loop-feature-test.true c.loop-feature.invariant (subst (λ (f : FeatureValue). IsFeature f) c.feature-item.is c.facts.ensures)

pub returns : goal.returns
returns c =
    All-same (λ f. IsFeature (feature_value f)) c.args.features.now _ (sym (take_all c.loop-feature.feature-index c.args.features.now c.loop-feature-test.false)) c.loop-feature.invariant
