use Rattle.std.proofs.Common.{ap, sym, subst, ◌∙◌}
use Rattle.std.specs.Str.{IsUtf8}
use Rattle.std.proofs.lemmas.Str.{IsUtf8-from_is_utf8}
use Rattle.serde_json.specs.Written.{compact_text}
use Rattle.streetmap_geojson.specs.FeatureValue.{FeatureValue}
use Rattle.streetmap_json.proofs.WrittenTextUtf8.{text_utf8}
use Rattle.streetmap_feature_text.specs.Written.{feature_data}
use Rattle.streetmap_feature_text.specs.declared.packed.Packing.{Packing}
use Rattle.streetmap_feature_text.proofs.ExactFeatures.{exact_feature}
use Rattle.streetmap_feature_text.proofs.PackedFacts.{packed_view}
use Rattle.streetmap_feature_text.proofs.packed.PackedFeature.text.Goals as goal

pub unreachable-requires : goal.unreachable-requires
unreachable-requires c =
    let h = c.self.invariant in
    let is = c.as_slice.ensures ∙ ap (λ (k : Packing). k.text) c.deref.ensures ∙ h.written in
    c.in-Err.ensures (subst IsUtf8 (sym is) (IsUtf8-from_is_utf8 _ (text_utf8 (feature_data h.packed) (exact_feature h.packed h.is))))

pub returns : goal.returns
returns c =
    let h = c.self.invariant in
    c.in-Ok.ensures.0 ∙ c.as_slice.ensures ∙ ap (λ (k : Packing). k.text) c.deref.ensures ∙ h.written
    ∙ ap (λ (f : FeatureValue). compact_text (feature_data f)) (sym (packed_view _ _ _ _ h) ∙ c.self.view_is)
