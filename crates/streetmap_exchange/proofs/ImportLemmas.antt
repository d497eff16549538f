-- What is read from a text is what the text is imported by.
use Rattle.std.proofs.Common.{◌≡◌, ℕ, ◌+◌, ◌≤◌, List, [], ◌∷◌, length, Option, None, Some, Result, Ok, Err, option_map, option_and_then, IsTrue, Bool, true}
use Rattle.std.proofs.Common.{false, cond, codes, refl, sym, ap, subst, ◌∙◌, nat_le, arith}
use Rattle.std.specs.Prelude.{IfOk}
use Rattle.std.proofs.lemmas.Bool.Decides.{nat_tests}
use Rattle.serde_json.specs.Data.{Data}
use Rattle.serde_json.specs.Find.{as_array, get}
use Rattle.streetmap_geojson.specs.declared.fault.Fault.{Fault}
use Rattle.streetmap_geojson.specs.declared.fault.Fault.TheVariants.{WrongType}
use Rattle.streetmap_geojson.specs.declared.fault.CollectionFault.{CollectionFault}
use Rattle.streetmap_geojson.specs.declared.fault.CollectionFault.TheVariants as faults
use Rattle.streetmap_geojson.specs.FeatureValue.{FeatureValue}
use Rattle.streetmap_geojson.specs.ParsedGeometries.{list_of}
use Rattle.streetmap_geojson.specs.ParsedFeatures.{feature_at}
use Rattle.streetmap_geojson.specs.JsonText.{json_of}
use Rattle.streetmap_geojson.specs.Collection.{at_place, and_more, features_after, features_in, is_collection, features, AreFeatures, GivesAt}
use Rattle.streetmap_geojson.proofs.Collections.{are_found, are_read}
use Rattle.streetmap_batch.specs.Text.{Text}
use Rattle.streetmap_batch.specs.Names.{is_key, is_collection_id}
use Rattle.streetmap_batch.specs.ParsedBatches.{most_edits}
use Rattle.streetmap_batch.specs.BatchValue.{BatchValue}
use Rattle.streetmap_exchange.specs.declared.fault.ImportFault.{ImportFault}
use Rattle.streetmap_exchange.specs.ImportFaults.{IsReadBy}
use Rattle.streetmap_exchange.specs.Imports.{◌>>=◌, unless, most_bytes, batch_of_features, as_json, as_feature, features_of, import_text, import_of}
use Rattle.streetmap_exchange.specs.ImportMeaning.{IsImport}

-- ---- the definition of reading never runs out of memory

placed_memory : (n : ℕ) (r : Result FeatureValue Fault) → at_place n r ≡ Err faults.Memory → ⊥
placed_memory n (Ok f) h = cc
placed_memory n (Err f) h = cc

more_memory : (r : Result FeatureValue CollectionFault) (more : Result (List FeatureValue) CollectionFault) → (r ≡ Err faults.Memory → ⊥) →
    (more ≡ Err faults.Memory → ⊥) → and_more r more ≡ Err faults.Memory → ⊥
more_memory (Ok f) (Ok fs) h k e = cc
more_memory (Ok f) (Err fault) h k e = let same : fault ≡ faults.Memory = cc in k (ap (λ (w : CollectionFault). Err w) same)
more_memory (Err fault) more h k e = let same : fault ≡ faults.Memory = cc in h (ap (λ (w : CollectionFault). Err w) same)

after_memory : (n : ℕ) (ds : List Data) → features_after n None ds ≡ Err faults.Memory → ⊥
unfolding features_after
after_memory n [] h = cc
after_memory n (d ∷ ds) h = more_memory _ _ (placed_memory (n + 1) (feature_at (Some (n + 1)) None d)) (after_memory (n + 1) ds) h

in_memory : (o : Option (List Data)) → features_in None o ≡ Err faults.Memory → ⊥
in_memory None h = cc
in_memory (Some ds) h = after_memory 0 ds h

tested_memory : (b : Bool) (o : Option (List Data)) → cond b (features_in None o) (Err (faults.Fault WrongType)) ≡ Err faults.Memory → ⊥
tested_memory true o h = in_memory o h
tested_memory false o h = cc

no_memory : (d : Data) → features None d ≡ Err faults.Memory → ⊥
no_memory d h = tested_memory (is_collection d) (option_map list_of (option_and_then as_array (get (codes "features") d))) h

-- ---- the features of a value

found : (d : Data) (fs : List FeatureValue) → features None d ≡ Ok fs → AreFeatures None d fs
found d fs h = are_found (λ (x : List FeatureValue). x) (Ok fs) None d h

itself : (d : Data) (r : Result (List FeatureValue) CollectionFault) → features None d ≡ r → GivesAt (λ (x : List FeatureValue). x) r (features None d)
itself d (Ok fs) h = h
itself d (Err faults.Memory) h = tt
itself d (Err (faults.Fault f)) h = h
itself d (Err (faults.At n f)) h = h

reported : (d : Data) (fs : List FeatureValue) (r : Result (List FeatureValue) CollectionFault) → features None d ≡ r →
    GivesAt (λ (x : List FeatureValue). x) r (Ok fs) → features None d ≡ Ok fs
reported d fs (Ok gs) h g = h ∙ sym g
reported d fs (Err faults.Memory) h g = absurd (no_memory d h)
reported d fs (Err (faults.Fault f)) h g = absurd cc
reported d fs (Err (faults.At n f)) h g = absurd cc

pub again : (d : Data) (fs : List FeatureValue) → AreFeatures None d fs → features None d ≡ Ok fs
again d fs h = reported d fs (features None d) refl (are_read (λ (x : List FeatureValue). x) (features None d) None d (itself d (features None d) refl) fs h)

-- ---- what passes a step

passed : {B : Type 0} (b : Bool) (fault : ImportFault) (f : Bool → Result B ImportFault) (x : B) → (unless b fault >>= f) ≡ Ok x → IsTrue b × (f true ≡ Ok x)
passed true fault f x h = (refl, h)
passed false fault f x h = absurd cc

json_ok : (r : Result Data Fault) (d : Data) → as_json r ≡ Ok d → r ≡ Ok d
json_ok (Ok v) d h = let same : v ≡ d = cc in ap (λ (w : Data). Ok w) same
json_ok (Err f) d h = absurd cc

feature_ok : (r : Result (List FeatureValue) CollectionFault) (fs : List FeatureValue) → as_feature r ≡ Ok fs → r ≡ Ok fs
feature_ok (Ok gs) fs h = let same : gs ≡ fs = cc in ap (λ (w : List FeatureValue). Ok w) same
feature_ok (Err faults.Memory) fs h = absurd cc
feature_ok (Err (faults.Fault f)) fs h = absurd cc
feature_ok (Err (faults.At n f)) fs h = absurd cc

-- what was read at one step, and passed to the next
went_on : {A B : Type 0} (r : Result A ImportFault) (f : A → Result B ImportFault) (x : B) → (r >>= f) ≡ Ok x → (a : A) × (r ≡ Ok a) × (f a ≡ Ok x)
went_on (Ok a) f x h = (a, refl, h)
went_on (Err e) f x h = absurd cc

same_batch : (a b : BatchValue) → ◌≡◌ {A = Result BatchValue ImportFault} (Ok a) (Ok b) → b ≡ a
same_batch a b h = cc

within : (n m : ℕ) → IsTrue (nat_le n m) → n ≤ m
within n m h = grind (arith, nat_tests)

passes : (n m : ℕ) → n ≤ m → nat_le n m ≡ true
passes n m h = grind (arith, nat_tests)

-- ---- a text is imported by what is read from it

text_found : (replace : Bool) (key collection : Text) (text : List ℕ) (b : BatchValue) → IsTrue (is_key key) → IsTrue (is_collection_id collection) →
    length text ≤ most_bytes
    → import_text replace key collection text ≡ Ok b → IsImport replace key collection text b
text_found replace key collection text b keyed placed short h =
    let fs = went_on (features_of text) _ b h in
    let d = went_on (as_json (json_of text)) (λ v. as_feature (features None v)) fs.0 fs.1 in
    let few = passed (nat_le (length fs.0) most_edits) _ (λ _. Ok (batch_of_features replace key collection fs.0)) b fs.2 in
    record {
      keyed = keyed;
      placed = placed;
      short = short;
      value = d.0;
      reported = json_ok (json_of text) d.0 d.1;
      features = fs.0;
      read = found d.0 fs.0 (feature_ok (features None d.0) fs.0 d.2);
      few = within (length fs.0) most_edits few.0;
      made = same_batch (batch_of_features replace key collection fs.0) b few.1;
    }

pub import_found : (replace : Bool) (key collection : Text) (text : List ℕ) (b : BatchValue) → import_of replace key collection text ≡ Ok b →
    IsImport replace key collection text b
unfolding import_of
import_found replace key collection text b h =
    let keyed = passed (is_key key) _ _ b h in
    let placed = passed (is_collection_id collection) _ _ b keyed.1 in
    let short = passed (nat_le (length text) most_bytes) _ (λ _. import_text replace key collection text) b placed.1 in
    text_found replace key collection text b keyed.0 placed.0 (within (length text) most_bytes short.0) short.1

import_again : (replace : Bool) (key collection : Text) (text : List ℕ) (b : BatchValue) → IsImport replace key collection text b →
    import_of replace key collection text ≡ Ok b
unfolding import_of
import_again replace key collection text b h =
    let short = passes (length text) most_bytes h.short in
    let few = passes (length h.features) most_edits h.few in
    let read = again h.value h.features h.read in
    rw (h.keyed, h.placed, short, h.reported, read, few, h.made) refl

-- ---- what is answered

pub is_import : {X : Type 0} (view : X → BatchValue) (r : Result X ImportFault) (replace : Bool) (key collection : Text) (text : List ℕ) →
    IsReadBy view r (import_of replace key collection text) → IfOk r (λ x. IsImport replace key collection text (view x))
is_import view (Ok x) replace key collection text h = import_found replace key collection text (view x) h
is_import view (Err e) replace key collection text h = tt

pub is_made : {X : Type 0} (view : X → BatchValue) (r : Result X ImportFault) (replace : Bool) (key collection : Text) (text : List ℕ) →
    IsReadBy view r (import_of replace key collection text) → (b : BatchValue) → IsImport replace key collection text b → IsReadBy view r (Ok b)
is_made view r replace key collection text h b imported = subst (λ (w : Result BatchValue ImportFault). IsReadBy view r w)
    (import_again replace key collection text b imported) h
