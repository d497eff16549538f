-- A line with a feature in its usual form.
use Rattle.std.proofs.Common.{◌≡◌, ℕ, Bool, true, false, List, Option, None, Some, IfSome, Ok, cond, ap, ◌∙◌, refl}
use Rattle.std.specs.Prelude.{◌&&◌, ◌==◌}
use Rattle.serde_json.specs.Data.{Data}
use Rattle.serde_json.proofs.OnLiterals.{serde_json_on_literals}
use Rattle.streetmap_geojson.specs.FeatureMembers.{feature_object}
use Rattle.streetmap_geojson.specs.ParsedFeatures.{feature}
use Rattle.streetmap_geojson.specs.FeatureValue.{FeatureValue}
use Rattle.streetmap_placing.specs.Text.{is_requested}
use Rattle.streetmap_placing.specs.Value.{value_of}
use Rattle.streetmap_feature_reader.specs.UsualTexts.{IsUsual}
use Rattle.streetmap_loading.specs.Texts.{Rules, feature_of, item_of_feature, item_of_value, item_of_read, item_of_text, held}

-- a test that includes a false condition does not pass
neither : {A : Type 0} (b : Bool) (x y : A) → cond (b && false) x y ≡ y
neither true x y = refl
neither false x y = refl

-- it has an id, and is not a collection
usual_value : (r : Rules) (place : ℕ) (g i p : Data) → item_of_value r place (feature_object g i p)
    ≡ item_of_feature r place (feature_of r place (feature_object g i p))
unfolding serde_json_on_literals
usual_value r place g i p = neither (place == 1) _ _

named : (r : Rules) (place : ℕ) (g i p : Data) (f : FeatureValue) → feature None (feature_object g i p) ≡ Ok f → feature_of r place (feature_object g i p)
    ≡ held r.skip f
unfolding serde_json_on_literals
named r place g i p f read = rw read refl

-- if numbers stay as they are, the item of the text is the edit of its feature
usual_item : (r : Rules) (place : ℕ) (text : List ℕ) (f : FeatureValue) → is_requested r.numbers.placement r.numbers.fractions ≡ false → IsUsual None text f
    → item_of_text r place text ≡ item_of_feature r place (held r.skip f)
unfolding value_of
usual_item r place text f plain usual =
    let d = feature_object usual.geometry usual.id usual.properties in
    let value_is : value_of r.numbers text ≡ Ok d = rw (plain, usual.is) refl in
    ap (item_of_read r place) value_is ∙ usual_value r place usual.geometry usual.id usual.properties
    ∙ ap (item_of_feature r place) (named r place usual.geometry usual.id usual.properties f usual.reads)

-- the same for each feature that was found
pub usual_found : {X : Type 0} (view : X → FeatureValue) (r : Rules) (text : List ℕ) (found : Option X) → is_requested r.numbers.placement r.numbers.fractions
    ≡ false
    → IfSome found (λ x. IsUsual None text (view x))
    → IfSome found (λ x. (place : ℕ) → item_of_text r place text ≡ item_of_feature r place (held r.skip (view x)))
usual_found view r text None plain usual = tt
usual_found view r text (Some x) plain usual = λ place. usual_item r place text (view x) plain usual
