-- How long the text of an edit of a feature is.
use Rattle.std.proofs.Common.{◌≡◌, ◌+◌, ◌∷◌, [], ◌++◌, ℕ, List, IsTrue, codes, length, refl, ap, arith, sym, ◌∙◌, ◌≤◌, true}
use Rattle.std.specs.List.{list_all}
use Rattle.std.proofs.lemmas.Bool.{leb-true}
use Rattle.std.proofs.lemmas.Grind.{common_steps}
use Rattle.std.proofs.lemmas.List.{length-append}
use Rattle.json.specs.Ascii as ascii
use Rattle.serde_json.specs.Data.{string}
use Rattle.serde_json.specs.Written.{compact_text}
use Rattle.streetmap_geojson.specs.FeatureValue.{FeatureValue}
use Rattle.streetmap_feature_text.specs.Plain.{is_plain}
use Rattle.streetmap_feature_text.specs.Written.{feature_data}
use Rattle.streetmap_feature_text.proofs.PlainTexts.{plain_text}
use Rattle.streetmap_batch.specs.Text.{Text}
use Rattle.streetmap_batch.specs.Names.{is_id_byte, is_collection_id}
use Rattle.streetmap_batch.specs.BatchValue as edit
use Rattle.streetmap_batch.specs.BatchText.{edit_data, feature_edit_data}
use Rattle.streetmap_batch.proofs.NameFacts.{both_true}
use Rattle.streetmap_batch.proofs.TextFacts.{feature_edit_text_is}

-- the bytes of a collection's id appear in a JSON string as they are
plain_byte : (b : ℕ) → is_id_byte b ≡ true → is_plain b ≡ true
plain_byte b h = grind (arith, common_steps)

plain_bytes : (s : List ℕ) → list_all is_id_byte s ≡ true → list_all is_plain s ≡ true
plain_bytes [] h = refl
plain_bytes (b ∷ s) h =
    let both = both_true (is_id_byte b) (list_all is_id_byte s) h in
    rw (plain_byte b both.0, plain_bytes s both.1) refl

plain_id : (id : Text) → IsTrue (is_collection_id id) → list_all is_plain id ≡ true
unfolding is_collection_id
plain_id id h = plain_bytes id (both_true _ _ (both_true _ _ h).1).1

pub id_length : (id : Text) → IsTrue (is_collection_id id) → length id ≤ 64
unfolding is_collection_id
id_length id h = leb-true (length id) 64 (both_true _ _ (both_true _ _ h).0).1

quoted_length : (s : Text) → list_all is_plain s ≡ true → length (compact_text (string s)) ≡ 2 + length s
quoted_length s plain =
    ap length (plain_text s plain) ∙ omega (arith, length-append s (ascii.quote ∷ []))

-- the text of an edit of a feature has 36 bytes besides its operation, its collection and its
-- feature
edit_length : (op id : Text) (f : FeatureValue) → list_all is_plain op ≡ true → IsTrue (is_collection_id id) →
    length (compact_text (feature_edit_data op id f)) ≡ 36 + length op + length id + length (compact_text (feature_data f))
edit_length op id f plain named =
    let c = compact_text (string id) in
    let t = compact_text (feature_data f) in
    let o = compact_text (string op) in
    sym (ap length (feature_edit_text_is op id f)) ∙ omega (
      arith,
      length-append c (codes ",\"feature\":" ++ (t ++ (codes ",\"op\":" ++ (o ++ codes "}")))),
      length-append t (codes ",\"op\":" ++ (o ++ codes "}")),
      length-append o (codes "}"),
      quoted_length id (plain_id id named),
      quoted_length op plain,
    )

pub insertion_length : (id : Text) (f : FeatureValue) → IsTrue (is_collection_id id) →
    length (compact_text (edit_data (edit.insert id f))) ≡ 42 + (length id + length (compact_text (feature_data f)))
unfolding edit_data
insertion_length id f named = edit_length (codes "insert") id f refl named ∙ omega arith

pub replacement_length : (id : Text) (f : FeatureValue) → IsTrue (is_collection_id id) →
    length (compact_text (edit_data (edit.replace id f))) ≡ 43 + (length id + length (compact_text (feature_data f)))
unfolding edit_data
replacement_length id f named = edit_length (codes "replace") id f refl named ∙ omega arith
