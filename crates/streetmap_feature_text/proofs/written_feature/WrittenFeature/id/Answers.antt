use Rattle.std.proofs.Common.{ap, sym, ◌∙◌, string_bytes}
use Rattle.streetmap_geojson.specs.FeatureValue.{FeatureValue}
use Rattle.streetmap_feature_text.specs.declared.written_feature.Written.{Written}
use Rattle.streetmap_feature_text.proofs.KeptFacts.{written_view}
use Rattle.streetmap_feature_text.proofs.written_feature.WrittenFeature.id.Goals as goal

pub returns : goal.returns
returns c =
    let h = c.self.invariant in
    c.as_str.ensures.value ∙ ap (λ (k : Written). string_bytes k.id) c.deref.ensures ∙ h.named
    ∙ ap (λ (f : FeatureValue). f.id) (sym (written_view _ _ _ _ _ h) ∙ c.self.view_is)
