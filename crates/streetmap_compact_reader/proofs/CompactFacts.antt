-- A compact text, from its parts, and what it reads as.
use Rattle.std.proofs.Common.{◌≡◌, ℕ, true, List, ◌++◌, Option, None, Ok, codes, refl, ap, ◌∙◌}
use Rattle.std.specs.Str.{is_utf8}
use Rattle.serde_json.specs.Data.{Data, string}
use Rattle.serde_json.specs.Written.{compact_text}
use Rattle.streetmap_grid.specs.Values.{BoxValue}
use Rattle.streetmap_moment.specs.IntervalValue.{IntervalValue}
use Rattle.streetmap_geojson.specs.Fault.{◌>>=◌}
use Rattle.streetmap_geojson.specs.Id.{is_id}
use Rattle.streetmap_geojson.specs.FeatureValue.{FeatureValue}
use Rattle.streetmap_geojson.specs.FeatureInvariant.{IsFeature}
use Rattle.streetmap_geojson.specs.FeatureMeaning.{ReadsAs}
use Rattle.streetmap_geojson.specs.JsonText.{json_of}
use Rattle.streetmap_geojson.specs.ParsedFeatures.{feature}
use Rattle.streetmap_geojson.specs.Times.{time_of, as_fault}
use Rattle.streetmap_geojson.proofs.Timing.{time_found, time_is}
use Rattle.streetmap_geojson.proofs.Wholes as wholes
use Rattle.streetmap_feature_reader.specs.UsualTexts.{feature_of_text}
use Rattle.streetmap_feature_text.specs.Written.{geometry_member, feature_data}
use Rattle.streetmap_feature_text.proofs.Again as again
use Rattle.streetmap_feature_text.proofs.WrittenFeatures.{text_is_json}
use Rattle.streetmap_feature_text.proofs.WrittenParts.{feature_text_is}
use Rattle.streetmap_compact_reader.specs.declared.flat.Flat.{Flat}
use Rattle.streetmap_compact_reader.specs.Fronts.{IsGeometryFront, AreProperties}
use Rattle.streetmap_compact_reader.specs.Compact.{IsCompactOf}

-- what is written for a feature reads as that feature, with the time that its property says
timed_again : (property : Option (List ℕ)) (f : FeatureValue) → IsFeature f → time_of property f.properties ≡ Ok f.time → ReadsAs property (feature_data f) f
timed_again property f h said =
    let r = again.feature_again f h in
    record {
      typed = r.typed;
      flat = r.flat;
      named = r.named;
      placed = r.placed;
      few = r.few;
      reported = r.reported;
      kept = r.kept;
      whole = r.whole;
      timed = time_found property f.properties f.time (ap as_fault said);
    }

-- the feature of a compact text is what its value reads as
pub reads_as : (property : Option (List ℕ)) (text id : List ℕ) (extent : Option BoxValue) (time : Option IntervalValue)
    (h : IsCompactOf property text id extent time) → (d : Data) × (json_of text ≡ Ok d) × ReadsAs property d h.feature
reads_as property text id extent time h =
    (feature_data h.feature, ap json_of h.written ∙ text_is_json h.feature h.is, timed_again property h.feature h.is h.reported)

read_again : (property : Option (List ℕ)) (text : List ℕ) (f : FeatureValue) → IsFeature f → text ≡ compact_text (feature_data f) →
    time_of property f.properties ≡ Ok f.time → feature_of_text property text ≡ Ok f
read_again property text f h written said =
    ap (λ r. r >>= feature property) (ap json_of written ∙ text_is_json f h) ∙ wholes.feature_again None property (feature_data f) f
    (timed_again property f h said)

pub compact_feature : (property : Option (List ℕ)) (text opened placed identified named described typed id : List ℕ) (extent : Option BoxValue)
    (found : Option Flat) (time : Option IntervalValue)
    → text ≡ codes "{\"geometry\":" ++ opened → IsGeometryFront opened placed extent → placed ≡ codes ",\"id\":" ++ identified → identified
    ≡ compact_text (string id) ++ named → is_utf8 id ≡ true → is_id id ≡ true
    → named ≡ codes ",\"properties\":" ++ described → (p : AreProperties described typed property found) → typed ≡ codes ",\"type\":\"Feature\"}" →
    time_of property p.properties ≡ Ok time → IsCompactOf property text id extent time
compact_feature property text opened placed identified named described typed id extent found time a g b i utf8 is c p d said =
    let f : FeatureValue = record { id = id; geometry = g.geometry; properties = p.properties; time = time } in
    let h : IsFeature f = record {
      named = is;
      text = utf8;
      made = g.made;
      few = g.few;
      oriented = g.oriented;
      kept = p.kept;
      flat = p.flat;
      whole = p.whole;
      exact = p.exact;
      timed = time_is property p.properties time said;
    } in
    let placed_text = compact_text (geometry_member g.geometry) in
    let id_text = compact_text (string id) in
    let said_text = compact_text p.properties in
    let written : text ≡ compact_text (feature_data f) =
    a ∙ ap (λ (t : List ℕ). codes "{\"geometry\":" ++ t) (g.text ∙ ap (λ (t : List ℕ). placed_text ++ t)
    (b ∙ ap (λ (t : List ℕ). codes ",\"id\":" ++ t) (i ∙ ap (λ (t : List ℕ). id_text ++ t)
    (c ∙ ap (λ (t : List ℕ). codes ",\"properties\":" ++ t) (p.text ∙ ap (λ (t : List ℕ). said_text ++ t) d)))))
    ∙ feature_text_is f in
    record {
      feature = f;
      is = h;
      written = written;
      named = refl;
      reaches = g.reaches;
      timed = refl;
      reported = said;
      reads = read_again property text f h written said;
    }
