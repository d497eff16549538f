use Rattle.std.proofs.Common.{◌≡◌, ap, sym, ◌∙◌, Err, subst}
use Rattle.std.specs.Prelude.{T}
use Rattle.std.specs.Result.{is_ok}
use Rattle.streetmap_geojson.specs.Fault.{Fails}
use Rattle.streetmap_geojson.specs.FeatureValue.{retimed}
use Rattle.streetmap_feature_text.specs.Packed.{feature_in_text}
use Rattle.streetmap_feature_text.specs.PackedIntervalView.{packed_interval_value}
use Rattle.streetmap_feature_text.specs.declared.packed.Packing.{Packing}
use Rattle.streetmap_feature_text.proofs.PackedFacts.{packed_text, unpacked_of}
use Rattle.streetmap_feature_text.proofs.packed.PackedFeature.unpack.Goals as goal

pub unreachable-requires : goal.unreachable-requires
unreachable-requires c =
    let failed : feature_in_text c.as_slice.result.now ≡ Err c.in-Err-Fault.field-0-0 = subst (λ e. Fails e (feature_in_text c.as_slice.result.now)) c.in-Err-Fault.field-0-is c.in-Err-Fault.ensures in
    let found = ap feature_in_text (c.as_slice.ensures ∙ ap (λ (k : Packing). k.text) c.deref.ensures) ∙ packed_text _ _ _ c.self.invariant in
    subst T (ap is_ok (sym found ∙ failed)) tt

pub returns-in-Ok : goal.returns-in-Ok
returns-in-Ok c =
    let kept = c.self.inside.kept.value in
    let found = ap feature_in_text (sym (c.as_slice.ensures ∙ ap (λ (k : Packing). k.text) c.deref.ensures)) ∙ c.in-Ok.ensures in
    let timed = c.time.ensures ∙ ap (λ (k : Packing). packed_interval_value k.time) c.deref-in-Ok.ensures in
    c.with_time.ensures ∙ ap (retimed c.in-Ok.feature) timed ∙ sym (unpacked_of kept.text (packed_interval_value kept.time) c.in-Ok.feature found) ∙ c.self.view_is
