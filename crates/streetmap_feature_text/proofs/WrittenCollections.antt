-- What is written for a list of features reads as them, and its compact text as its value.
use Rattle.std.proofs.Common.{◌≡◌, ℕ, ◌+◌, ◌≤◌, All, List, [], ◌∷◌, map, None, Some, Ok, option_map, refl, ap, arith}
use Rattle.std.proofs.lemmas.List.Elements.{All-head, All-tail}
use Rattle.serde_json.specs.Data.{Data, depth, items_depth}
use Rattle.serde_json.specs.Read.{max_depth}
use Rattle.serde_json.specs.View.{items_of}
use Rattle.serde_json.specs.Written.{compact_text}
use Rattle.streetmap_geojson.specs.FeatureValue.{FeatureValue, untimed}
use Rattle.streetmap_geojson.specs.FeatureInvariant.{IsFeature}
use Rattle.streetmap_geojson.specs.Collection.{AreAfter, AreFeatures}
use Rattle.streetmap_geojson.specs.JsonText.{json_of}
use Rattle.streetmap_geojson.specs.ParsedGeometries.{list_of}
use Rattle.streetmap_feature_text.specs.Written.{feature_data, collection_data}
use Rattle.streetmap_geojson.proofs.Lists.{list_of-items_of}
use Rattle.streetmap_feature_text.proofs.Again.{feature_again_at, depth_feature}
use Rattle.streetmap_feature_text.proofs.ExactFeatures.{exact_feature, exact_each, exact_collection}
use Rattle.streetmap_feature_text.proofs.JsonTexts.{text_again}

after_again : (n : ℕ) (fs : List FeatureValue) → All IsFeature fs → AreAfter n None (map feature_data fs) (map untimed fs)
after_again n [] h = tt
after_again n (f ∷ fs) h = (feature_again_at (Some (n + 1)) f (All-head IsFeature f fs h), after_again (n + 1) fs (All-tail IsFeature f fs h))

found_again : (ds : List Data) → option_map list_of (Some (items_of ds)) ≡ Some ds
found_again ds = ap Some (list_of-items_of ds)

pub collection_again : (fs : List FeatureValue) → All IsFeature fs → AreFeatures None (collection_data fs) (map untimed fs)
collection_again fs h = (refl, (map feature_data fs, found_again (map feature_data fs), after_again 0 fs h))

depth_features : (fs : List FeatureValue) → All IsFeature fs → items_depth (items_of (map feature_data fs)) ≤ 64
depth_features [] h = omega arith
depth_features (f ∷ fs) h =
    let one = depth_feature f (All-head IsFeature f fs h) in
    let more = depth_features fs (All-tail IsFeature f fs h) in
    omega (arith, one, more)

shallow : (fs : List FeatureValue) → All IsFeature fs → depth (collection_data fs) ≤ max_depth
shallow fs h = let k = depth_features fs h in omega (arith, k)

pub collection_is_json : (fs : List FeatureValue) → All IsFeature fs → json_of (compact_text (collection_data fs)) ≡ Ok (collection_data fs)
collection_is_json fs h = text_again (collection_data fs) (exact_collection fs (exact_each feature_data IsFeature exact_feature fs h)) (shallow fs h)
