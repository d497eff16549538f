-- Each serial from 1 to the number of keys is that of a batch.
use Rattle.std.proofs.Common.{◌≡◌, ℕ, zero, suc, ◌+◌, ◌<◌, ◌≤◌, Bool, true, false, cond, T, eqb}
use Rattle.std.proofs.Common.{List, [], ◌∷◌, ◌++◌, length, map, find, Option, None, Some, refl}
use Rattle.std.proofs.Common.{sym, ap, ◌∙◌, nat_eq, arith, ◌||◌, length-append}
use Rattle.std.specs.List.{list_any, IsDistinct, AllByRecursion}
use Rattle.std.specs.Option.{option_to_list}
use Rattle.std.specs.FinMap.{entries, get, len, find as find_key, is_sorted, get-entries}
use Rattle.std.specs.FinMap.{entries_sorted, len-entries}
use Rattle.std.proofs.lemmas.Bool.Decides.{nat_tests}
use Rattle.std.proofs.lemmas.List.{length-map}
use Rattle.std.proofs.lemmas.Map.Steps.{length-le_from_distinct_below}
use Rattle.streetmap_batch.specs.Text.{Text, text_cmp}
use Rattle.streetmap_ledger.specs.State.{State, AcceptedBatch}
use Rattle.streetmap_ledger.specs.WellFormed.{IsState}
use Rattle.streetmap_ledger.proofs.TextMaps.{first, second}
use Rattle.streetmap_ledger.specs.Kept.{KeyedBatch, has_serial, batch_in, batch_count, batches_next}
use Rattle.streetmap_ledger.specs.SerialLaws.{NoSerialIsLeftOut}
use Rattle.streetmap_ledger.proofs.Serials.{none_some, none_below, apart, here_is, under, found_under}
use Rattle.streetmap_ledger.proofs.Serials.{is_serial}

abbrev serials_of : List KeyedBatch → List ℕ
serials_of es = map (λ (e : KeyedBatch). e.1.serial) es

other_eqb : (a b : ℕ) → nat_eq a b ≡ false → eqb b a ≡ false
other_eqb a b e = grind (arith, nat_tests)

none_by : (n : ℕ) (e : KeyedBatch) (rest : Option KeyedBatch) (later : Bool)
    → (rest ≡ None → later ≡ false) → (b : Bool) → has_serial n e ≡ b
    → cond b (Some e) rest ≡ None → (eqb n e.1.serial || later) ≡ false
none_by n e rest later more true is h = none_some e (sym h)
none_by n e rest later more false is h = rw (other_eqb e.1.serial n is, more h) refl

-- if no batch is found with a serial, it is none of the serials
none_any : (n : ℕ) (es : List KeyedBatch)
    → find (has_serial n) es ≡ None → list_any (eqb n) (serials_of es) ≡ false
none_any n [] h = refl
none_any n (e ∷ es) h =
    none_by n e (find (has_serial n) es) (list_any (eqb n) (serials_of es)) (none_any n es)
    (has_serial n e) refl h

any_found : (n : ℕ) (es : List KeyedBatch) → list_any (eqb n) (serials_of es) ≡ true
    → (b : KeyedBatch) × (find (has_serial n) es ≡ Some b)
any_found n es any = by (find (has_serial n) es) refl where
  by : (o : Option KeyedBatch) → find (has_serial n) es ≡ o → (b : KeyedBatch) × (o ≡ Some b)
  by (Some b) is = (b, refl)
  by None is = let none = none_any n es is in absurd cc

-- ---- no two batches have one serial

abbrev OneEach : List KeyedBatch → Type 0
OneEach es = (key other : Text) (k l : AcceptedBatch)
    → find_key text_cmp key es ≡ Some k → find_key text_cmp other es ≡ Some l
    → k.serial ≡ l.serial → key ≡ other

there : (e : KeyedBatch) (es : List KeyedBatch) (key : Text) (v : AcceptedBatch)
    → T (is_sorted text_cmp (e ∷ es)) → find_key text_cmp key es ≡ Some v
    → find_key text_cmp key (e ∷ es) ≡ Some v
there e es key v sorted found = apart e es v key (first _ _ sorted) found (text_cmp key e.0) refl

rest_each : (e : KeyedBatch) (es : List KeyedBatch)
    → T (is_sorted text_cmp (e ∷ es)) → OneEach (e ∷ es) → OneEach es
rest_each e es sorted one key other k l f g same =
    one key other k l (there e es key k sorted f) (there e es other l sorted g) same

new_first : (e : KeyedBatch) (es : List KeyedBatch) → T (is_sorted text_cmp (e ∷ es))
    → OneEach (e ∷ es) → list_any (eqb e.1.serial) (serials_of es) ≡ false
new_first e es sorted one = by (list_any (eqb e.1.serial) (serials_of es)) refl where
  by : (b : Bool) → list_any (eqb e.1.serial) (serials_of es) ≡ b → b ≡ false
  by false is = refl
  by true is =
      let b = any_found e.1.serial es is in
      let u = under e.1.serial es b.0 (second _ _ sorted) b.1 in
      let found = there e es b.0.0 b.0.1 sorted u.0 in
      let serial = is_serial b.0.1.serial e.1.serial u.1 in
      let same : b.0.0 ≡ e.0 = one b.0.0 e.0 b.0.1 e.1 found (here_is e es) serial in
      let moved = ap (λ (k : Text). find_key text_cmp k es) (sym same) in
      none_some b.0.1 (sym (none_below e.0 es (first _ _ sorted)) ∙ (moved ∙ u.0))

pub none_all : (n : ℕ) (ns : List ℕ)
    → list_any (eqb n) ns ≡ false → AllByRecursion (λ m. eqb n m ≡ false) ns
none_all n [] h = tt
none_all n (m ∷ ns) h =
    let p = or_parts (eqb n m) (list_any (eqb n) ns) h in (p.0, none_all n ns p.1)
  where
    or_parts : (a b : Bool) → (a || b) ≡ false → (a ≡ false) × (b ≡ false)
    or_parts true b h = absurd cc
    or_parts false b h = (refl, h)

distinct : (es : List KeyedBatch)
    → T (is_sorted text_cmp es) → OneEach es → IsDistinct eqb (serials_of es)
unfolding IsDistinct
distinct [] sorted one = tt
distinct (e ∷ es) sorted one = (
  none_all e.1.serial (serials_of es) (new_first e es sorted one),
  distinct es (second _ _ sorted) (rest_each e es sorted one),
)

-- ---- states

module _ (s : State) (sound : IsState s) where
  one_each : OneEach (entries s.keys)
  one_each key other k l f g same =
      sound.one_each key other k l (get-entries s.keys key ∙ f) (get-entries s.keys other ∙ g) same

  -- a number among the serials is one from 1 to the number of keys
  within : (n : ℕ) → list_any (eqb n) (serials_of (entries s.keys)) ≡ true
      → (1 ≤ n) × (n ≤ len s.keys)
  within n any =
      let b = any_found n (entries s.keys) any in
      let u = found_under s n b.0 b.1 in
      let low = sound.from_one b.0.0 b.0.1 u.0 in
      let high = sound.to_count b.0.0 b.0.1 u.0 in
      (omega (arith, u.1, low), omega (arith, u.1, high))

  no_zero : list_any (eqb 0) (serials_of (entries s.keys)) ≡ false
  no_zero = by (list_any (eqb 0) (serials_of (entries s.keys))) refl where
    by : (b : Bool) → list_any (eqb 0) (serials_of (entries s.keys)) ≡ b → b ≡ false
    by false is = refl
    by true is = let low = within 0 is in absurd (omega (arith, low.0))

  -- 0, a number, and the serials
  both_new : (n : ℕ) → 1 ≤ n → list_any (eqb n) (serials_of (entries s.keys)) ≡ false
      → IsDistinct eqb (0 ∷ n ∷ serials_of (entries s.keys))
  unfolding IsDistinct
  both_new n low none = (
    (apart_zero n low, none_all 0 (serials_of (entries s.keys)) no_zero),
    (
      none_all n (serials_of (entries s.keys)) none,
      distinct (entries s.keys) (entries_sorted s.keys) one_each,
    ),
  )
    where
      apart_zero : (n : ℕ) → 1 ≤ n → eqb 0 n ≡ false
      apart_zero n low = grind (arith, nat_tests)

  all_below : (n : ℕ) → n ≤ len s.keys → (q : ℕ)
      → (eqb q 0 || (eqb q n || list_any (eqb q) (serials_of (entries s.keys)))) ≡ true
      → q < len s.keys + 1
  all_below n high q any =
      by (eqb q 0) (eqb q n) (list_any (eqb q) (serials_of (entries s.keys))) refl refl refl any
    where
      by : (a b c : Bool) → eqb q 0 ≡ a → eqb q n ≡ b
          → list_any (eqb q) (serials_of (entries s.keys)) ≡ c
          → (a || (b || c)) ≡ true → q < len s.keys + 1
      by true b c e f g h = grind (arith, nat_tests)
      by false true c e f g h = grind (arith, nat_tests)
      by false false true e f g h = let in_it = within q g in omega (arith, in_it.1)
      by false false false e f g h = absurd cc

  pub kept_there : (n : ℕ) → 1 ≤ n → n ≤ batch_count s
      → (b : KeyedBatch) × (batch_in s n ≡ Some b)
  kept_there n low high = by (batch_in s n) refl where
    by : (o : Option KeyedBatch) → batch_in s n ≡ o → (b : KeyedBatch) × (o ≡ Some b)
    by (Some b) is = (b, refl)
    by None is =
        let none = none_any n (entries s.keys) is in
        let most = length-le_from_distinct_below (0 ∷ n ∷ serials_of (entries s.keys))
        (len s.keys + 1) (both_new n low none) (all_below n high) in
        let many = length-map (entries s.keys) (λ (e : KeyedBatch). e.1.serial) in
        let size = len-entries s.keys in
        absurd (omega (arith, most, many, size))

  pub as_many : (n k : ℕ) → n + k ≤ batch_count s → length (batches_next s n k) ≡ k
  as_many n zero high = refl
  as_many n (suc k) high =
      let b = kept_there (n + suc k) (omega arith) high in
      let rest = as_many n k (omega (arith, high)) in
      let more : batches_next s n (suc k) ≡ batches_next s n k ++ b.0 ∷ [] =
      ap (λ (o : Option KeyedBatch). batches_next s n k ++ option_to_list o) b.1 in
      let long = length-append (batches_next s n k) (b.0 ∷ []) in
      ap length more ∙ omega (arith, rest, long)

pub no_serial_is_left_out : NoSerialIsLeftOut
no_serial_is_left_out s sound = (kept_there s sound, as_many s sound)
