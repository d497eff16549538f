use Rattle.std.proofs.Common.{ap, sym, ◌∙◌, string_bytes}
use Rattle.serde_json.specs.Written.{compact_text}
use Rattle.streetmap_geojson.specs.FeatureValue.{FeatureValue}
use Rattle.streetmap_feature_text.specs.Written.{feature_data}
use Rattle.streetmap_feature_text.specs.declared.written_feature.Written.{Written}
use Rattle.streetmap_feature_text.proofs.KeptFacts.{written_view}
use Rattle.streetmap_feature_text.proofs.written_feature.WrittenFeature.text.Goals as goal

pub returns : goal.returns
returns c =
    let h = c.self.invariant in
    c.as_str.ensures.value ∙ ap (λ (k : Written). string_bytes k.text) c.deref.ensures ∙ h.text_is
    ∙ ap (λ (f : FeatureValue). compact_text (feature_data f)) (sym (written_view _ _ _ _ _ h) ∙ c.self.view_is)
