use Rattle.std.proofs.Common.{◌≡◌, ap, sym, ◌∙◌, Err, subst, string_bytes}
use Rattle.std.specs.Prelude.{T}
use Rattle.std.specs.Result.{is_ok}
use Rattle.streetmap_geojson.specs.Fault.{Fails}
use Rattle.streetmap_geojson.specs.FeatureValue.{untimed}
use Rattle.streetmap_geojson.proofs.Steps.{ok_is}
use Rattle.streetmap_feature_text.specs.Packed.{feature_in_text}
use Rattle.streetmap_feature_text.specs.declared.written_feature.Written.{Written}
use Rattle.streetmap_feature_text.proofs.KeptFacts.{written_text, written_view}
use Rattle.streetmap_feature_text.proofs.written_feature.WrittenFeature.read.Goals as goal

pub unreachable-requires : goal.unreachable-requires
unreachable-requires c =
    let failed : feature_in_text c.as_bytes.result.now ≡ Err c.in-Err-Fault.field-0-0 = subst (λ e. Fails e (feature_in_text c.as_bytes.result.now)) c.in-Err-Fault.field-0-is c.in-Err-Fault.ensures in
    let found = ap feature_in_text (c.as_bytes.ensures.value ∙ ap (λ (k : Written). string_bytes k.text) c.deref.ensures) ∙ written_text _ _ _ _ _ c.self.invariant in
    subst T (ap is_ok (sym found ∙ failed)) tt

pub returns-in-Ok : goal.returns-in-Ok
returns-in-Ok c =
    let h = c.self.invariant in
    let found = ap feature_in_text (c.as_bytes.ensures.value ∙ ap (λ (k : Written). string_bytes k.text) c.deref.ensures) ∙ written_text _ _ _ _ _ h in
    ok_is c.in-Ok.feature (untimed h.written) (sym c.in-Ok.ensures ∙ found) ∙ ap untimed (sym (written_view _ _ _ _ _ h) ∙ c.self.view_is)
