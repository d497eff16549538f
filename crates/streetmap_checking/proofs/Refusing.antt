-- Why something is not taken.
use Rattle.std.proofs.Common.{◌≡◌, ◌<◌, ℕ, List, [], ◌∷◌, Bool, true, Option, None, Some, Ok, Err, Result, IsTrue, IfSome, IsUtf8, sym, ap, subst, arith}
use Rattle.std.specs.List.{list_all, All}
use Rattle.std.proofs.lemmas.Bool.{and_parts}
use Rattle.std.proofs.lemmas.Str.{is_utf8-from_IsUtf8, IsUtf8-from_is_utf8, IsUtf8-from_ascii}
use Rattle.std.proofs.lemmas.Str.Ascii.{IsAscii-from_all}
use Rattle.std.proofs.lemmas.List.Elements.{All-nil, All-cons}
use Rattle.std.proofs.lemmas.Grind.{common_steps}
use Rattle.streetmap_geojson.specs.Times.{IsTimeOf, as_fault, time_of}
use Rattle.streetmap_geojson.proofs.Timing.{time_again}
use Rattle.streetmap_moment.specs.declared.faults.TimeFault.{TimeFault}
use Rattle.streetmap_moment.specs.IntervalValue.{IntervalValue}
use Rattle.serde_json.specs.Data.{Data}
use Rattle.streetmap_batch.specs.Text.{Text}
use Rattle.streetmap_batch.specs.BatchFacts.{IsTimePropertyIf}
use Rattle.streetmap_batch.specs.Names.{is_time_property, is_id_byte, is_key_byte, is_key, is_collection_id}
use Rattle.streetmap_rows.specs.declared.fault.ReadFault.{ReadFault}
use Rattle.streetmap_rows.specs.declared.fault.ReadFault.TheVariants.{Memory, Store, Unread}
use Rattle.streetmap_reading.specs.FoldEffects.{Refuses}

pub refuses_for : (P Q : Type 0) (fault : ReadFault) → (P → Q) → Refuses P fault → Refuses Q fault
refuses_for P Q Memory turn h = h
refuses_for P Q Unread turn h = turn h
refuses_for P Q (Store e) turn h = absurd h

-- ---- texts

pub property_is : (b : Bool) (o : Option Text) (t : Text) → o ≡ Some t → IsUtf8 t → b ≡ is_time_property t → (IsTrue b → IsTimePropertyIf o)
    × (IsTimePropertyIf o → IsTrue b)
property_is b o t is text same = (
  (λ h. subst IsTimePropertyIf (sym is) (subst IsTrue same h, is_utf8-from_IsUtf8 t text)),
  (λ h. subst IsTrue (sym same) (subst IsTimePropertyIf is h).0),
)

small_id : (b : ℕ) → is_id_byte b ≡ true → b < 128
small_id b h = grind (arith, common_steps)

small_key : (b : ℕ) → is_key_byte b ≡ true → b < 128
small_key b h = grind (arith, common_steps)

all_small : (test : ℕ → Bool) → ((b : ℕ) → test b ≡ true → b < 128) → (bs : List ℕ) → list_all test bs ≡ true → All (λ b. b < 128) bs
all_small test small [] h = All-nil (λ b. b < 128)
all_small test small (b ∷ bs) h = let p = and_parts (test b) (list_all test bs) h in All-cons (λ b. b < 128) b bs (small b p.0) (all_small test small bs p.1)

-- a key is a text
pub key_text : (key : Text) → IsTrue (is_key key) → IsUtf8 key
unfolding is_key
key_text key h = IsUtf8-from_ascii key (IsAscii-from_all key (all_small is_key_byte small_key key (and_parts _ _ h).1))

-- so is the id of a collection
pub id_text : (id : Text) → IsTrue (is_collection_id id) → IsUtf8 id
unfolding is_collection_id
id_text id h = IsUtf8-from_ascii id (IsAscii-from_all id (all_small is_id_byte small_id id (and_parts _ _ (and_parts _ _ h).1).1))

pub property_text : (o : Option Text) → IsTimePropertyIf o → IfSome o IsUtf8
property_text None h = tt
property_text (Some t) h = IsUtf8-from_is_utf8 t h.1

-- ---- times

was_ok : (r : Result (Option IntervalValue) TimeFault) (time : Option IntervalValue) → as_fault r ≡ Ok time → r ≡ Ok time
was_ok (Ok t) time e = let same : t ≡ time = cc in ap Ok same
was_ok (Err f) time e = absurd (cc)

pub time_is : (property : Option Text) (properties : Data) (time : Option IntervalValue) → IsTimeOf property properties time → time_of property properties
    ≡ Ok time
time_is property properties time h = was_ok _ time (time_again property properties time h)
