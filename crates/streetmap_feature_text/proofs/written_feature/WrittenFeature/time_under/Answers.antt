use Rattle.std.proofs.Common.{◌≡◌, List, ℕ, Option, Ok, Err, ap, sym, ◌∙◌, subst, option_map}
use Rattle.std.specs.Borrow.{Bor}
use Rattle.std.specs.Prelude.{IfOk, IfErr, IfSome}
use Rattle.streetmap_moment.specs.Views.{interval_value}
use Rattle.streetmap_geojson.specs.FeatureValue.{FeatureValue}
use Rattle.streetmap_geojson.specs.FeatureView.{feature_value}
use Rattle.streetmap_geojson.specs.Times.{time_of}
use Rattle.streetmap_feature_text.specs.declared.written_feature.Written.{Written}
use Rattle.streetmap_feature_text.proofs.KeptFacts.{written_view}
use Rattle.streetmap_feature_text.proofs.written_feature.WrittenFeature.time_under.Goals as goal

pub returns-in-Some-clause-reported : goal.returns-in-Some-clause-reported
returns-in-Some-clause-reported c =
    let h = c.self.invariant in
    let same : c.in-Some.feature ≡ h.written =
    subst (λ (o : Option FeatureValue). IfSome (option_map feature_value o) (λ f. f ≡ h.written)) (ap (λ (k : Written). k.feature) (sym c.deref.ensures) ∙ c.in-Some.is) h.same in
    subst (λ (f : FeatureValue). IfOk c.time_under.result (λ t. time_of (option_map (λ (s : Bor (List ℕ)). s.now) c.args.property) f.properties ≡ Ok (option_map interval_value t)))
    (same ∙ sym (written_view _ _ _ _ _ h) ∙ c.self.view_is) c.time_under.ensures.reported

pub returns-in-Some-clause-refused : goal.returns-in-Some-clause-refused
returns-in-Some-clause-refused c =
    let h = c.self.invariant in
    let same : c.in-Some.feature ≡ h.written =
    subst (λ (o : Option FeatureValue). IfSome (option_map feature_value o) (λ f. f ≡ h.written)) (ap (λ (k : Written). k.feature) (sym c.deref.ensures) ∙ c.in-Some.is) h.same in
    subst (λ (f : FeatureValue). IfErr c.time_under.result (λ e. time_of (option_map (λ (s : Bor (List ℕ)). s.now) c.args.property) f.properties ≡ Err e))
    (same ∙ sym (written_view _ _ _ _ _ h) ∙ c.self.view_is) c.time_under.ensures.refused
