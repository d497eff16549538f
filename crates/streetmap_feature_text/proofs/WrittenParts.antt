-- What is appended part by part is the text of a value.
use Rattle.std.proofs.Common.{◌≡◌, ℕ, ℤ, List, ◌++◌, Option, Some, None, Result, Ok, Err, if◌then◌else◌, refl, codes, ◌∙◌, append_assoc, rules}
use Rattle.std.specs.Result.{OnOk, is_ok}
use Rattle.json.specs.Print.{escape_byte}
use Rattle.serde_json.specs.Data.{string}
use Rattle.serde_json.specs.Written.{compact_text}
use Rattle.streetmap_grid.specs.Values.{SimpleValue}
use Rattle.streetmap_grid.specs.Values as values
use Rattle.streetmap_geojson.specs.FeatureValue.{FeatureValue}
use Rattle.streetmap_feature_text.specs.Written.{number_data, height_text, position_data, name_of, coordinates_data, array_of, simple_data, geometry_data, geometry_member, feature_data, collection_data}

abbrev pub position_parts : ℤ → ℤ → Option ℤ → List ℕ
position_parts x y z = codes "[" ++ (compact_text (number_data x) ++ (codes "," ++ (compact_text (number_data y) ++ (height_text z ++ codes "]"))))

pub position_text_is : (x y : ℤ) (z : Option ℤ) → position_parts x y z ≡ compact_text (position_data (record { x = x; y = y; z = z }))
unfolding position_data
position_text_is x y None = refl
position_text_is x y (Some z) = refl

abbrev pub simple_parts : SimpleValue → List ℕ
simple_parts s = codes "{\"coordinates\":" ++ (compact_text (coordinates_data s) ++ (codes ",\"type\":\"" ++ (name_of s ++ codes "\"}")))

pub simple_text_is : (s : SimpleValue) → simple_parts s ≡ compact_text (simple_data s)
unfolding escape_byte
simple_text_is (values.point p) = refl
simple_text_is (values.multi_point ps) = refl
simple_text_is (values.line_string ps) = refl
simple_text_is (values.multi_line_string ls) = refl
simple_text_is (values.polygon rs) = refl
simple_text_is (values.multi_polygon ps) = refl

abbrev pub collected_parts : List SimpleValue → List ℕ
collected_parts ss = codes "{\"geometries\":" ++ (compact_text (array_of simple_data ss) ++ codes ",\"type\":\"GeometryCollection\"}")

pub collected_text_is : (ss : List SimpleValue) → collected_parts ss ≡ compact_text (geometry_data (values.collection ss))
unfolding escape_byte
collected_text_is ss = refl

abbrev pub feature_parts : FeatureValue → List ℕ
feature_parts f = codes "{\"geometry\":" ++ (compact_text (geometry_member f.geometry) ++ (codes ",\"id\":" ++ (compact_text (string f.id) ++ (codes ",\"properties\":" ++ (compact_text f.properties ++ codes ",\"type\":\"Feature\"}")))))

pub feature_text_is : (f : FeatureValue) → feature_parts f ≡ compact_text (feature_data f)
unfolding escape_byte
feature_text_is f = refl

abbrev pub collection_parts : List FeatureValue → List ℕ
collection_parts fs = codes "{\"features\":" ++ (compact_text (array_of feature_data fs) ++ codes ",\"type\":\"FeatureCollection\"}")

pub collection_text_is : (fs : List FeatureValue) → collection_parts fs ≡ compact_text (collection_data fs)
unfolding escape_byte
collection_text_is fs = refl

-- a last part that was appended makes the whole
pub ended : {T E : Type 0} (r : Result T E) (new old last whole : List ℕ) → new ≡ (if is_ok r then old ++ last else old) → old ++ last ≡ whole → OnOk r (new ≡ whole)
ended (Ok x) new old last whole p q = p ∙ q
ended (Err e) new old last whole p q = tt

-- parts that were appended in turn, and a last one
pub joined : (out s1 s2 s3 s4 a b c d last : List ℕ) → s1 ≡ out ++ a → s2 ≡ s1 ++ b → s3 ≡ s2 ++ c → s4 ≡ s3 ++ d → s4 ++ last ≡ out ++ (a ++ (b ++ (c ++ (d ++ last))))
joined out s1 s2 s3 s4 a b c d last p q r s = search (rules, append_assoc, p, q, r, s)
