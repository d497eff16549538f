-- The object of the members that a feature usually has.
use Rattle.std.proofs.Common.{◌≡◌, ◌∙◌, ℕ, ◌<◌, ◌≤◌, List, Bool, true, false, Option, Result, cond, leb, Err, refl}
use Rattle.std.proofs.lemmas.Bool.{le-leb, lt-leb}
use Rattle.serde_json.specs.Data.{Data, depth}
use Rattle.serde_json.proofs.OnLiterals.{serde_json_on_literals}
use Rattle.streetmap_geojson.specs.declared.fault.Fault.{Fault}
use Rattle.streetmap_geojson.specs.declared.fault.Fault.TheVariants.{TooDeep}
use Rattle.streetmap_geojson.specs.Fault.{◌>>=◌}
use Rattle.streetmap_geojson.specs.ParsedFeatures.{feature, feature_at, unless, max_levels}
use Rattle.streetmap_geojson.specs.FeatureMembers.{feature_object, flat_feature}

-- a test, and what is done if it passes
passes : {A : Type 0} (b : Bool) (fault : Fault) (r : Result A Fault) → (unless b fault >>= λ _. r) ≡ cond b r (Err fault)
passes true fault r = refl
passes false fault r = refl

-- it reads as its members, if it is nested no deeper than allowed
feature_is : (time_property : Option (List ℕ)) (g i p : Data)
    → feature time_property (feature_object g i p) ≡ cond (leb (depth (feature_object g i p)) max_levels) (flat_feature time_property g i p) (Err TooDeep)
unfolding serde_json_on_literals feature_at flat_feature
feature_is time_property g i p = passes (leb (depth (feature_object g i p)) max_levels) TooDeep (flat_feature time_property g i p)

pub flat_is : (time_property : Option (List ℕ)) (g i p : Data) → depth (feature_object g i p) ≤ max_levels → feature time_property (feature_object g i p) ≡ flat_feature time_property g i p
flat_is time_property g i p flat = feature_is time_property g i p ∙ rw (le-leb (depth (feature_object g i p)) max_levels flat) refl

pub deep_is : (time_property : Option (List ℕ)) (g i p : Data) → max_levels < depth (feature_object g i p) → feature time_property (feature_object g i p) ≡ Err TooDeep
deep_is time_property g i p deep = feature_is time_property g i p ∙ rw (lt-leb (depth (feature_object g i p)) max_levels deep) refl
