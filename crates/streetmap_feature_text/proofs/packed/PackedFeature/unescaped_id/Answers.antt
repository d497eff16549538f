use Rattle.std.proofs.Common.{Option, ap, sym, subst, ◌∙◌}
use Rattle.std.specs.Prelude.{IfSome, slice_range}
use Rattle.streetmap_geojson.specs.FeatureValue.{FeatureValue}
use Rattle.streetmap_feature_text.specs.Packed.{IsPartOf}
use Rattle.streetmap_feature_text.specs.declared.packed.Part.{Part}
use Rattle.streetmap_feature_text.specs.declared.packed.Packing.{Packing}
use Rattle.streetmap_feature_text.proofs.PackedFacts.{packed_view}
use Rattle.streetmap_feature_text.proofs.packed.PackedFeature.unescaped_id.Goals as goal

pub returns-in-Some : goal.returns-in-Some
returns-in-Some c =
    let h = c.self.invariant in
    let part = c.in-Some.part in
    let is_part : IsPartOf part c.self.inside.kept.value.text h.packed.id =
    subst (λ (o : Option Part). IfSome o (λ p. IsPartOf p c.self.inside.kept.value.text h.packed.id)) (ap (λ (k : Packing). k.id) (sym c.deref.ensures) ∙ c.in-Some.is) h.named in
    ap (λ text. slice_range text part.start part.end) (c.as_slice.ensures ∙ ap (λ (k : Packing). k.text) c.deref-in-Some.ensures) ∙ is_part.is
    ∙ ap (λ (f : FeatureValue). f.id) (sym (packed_view _ _ _ _ h) ∙ c.self.view_is)
