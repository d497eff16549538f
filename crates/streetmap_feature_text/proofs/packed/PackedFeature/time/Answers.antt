use Rattle.std.proofs.Common.{ap, sym, ◌∙◌}
use Rattle.streetmap_geojson.specs.FeatureValue.{FeatureValue}
use Rattle.streetmap_feature_text.specs.PackedIntervalView.{packed_interval_value}
use Rattle.streetmap_feature_text.specs.declared.packed.Packing.{Packing}
use Rattle.streetmap_feature_text.proofs.PackedFacts.{packed_view}
use Rattle.streetmap_feature_text.proofs.packed.PackedFeature.time.Goals as goal

pub returns : goal.returns
returns c =
    c.time.ensures ∙ ap (λ (k : Packing). packed_interval_value k.time) c.deref.ensures
    ∙ ap (λ (f : FeatureValue). f.time) (sym (packed_view _ _ _ _ c.self.invariant) ∙ c.self.view_is)
