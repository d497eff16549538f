-- Each serial from 1 to the number of keys is kept with something.
use Rattle.std.proofs.Common.{◌≡◌, ℕ, zero, suc, ◌+◌, ◌<◌, ◌≤◌, Bool, true, false, cond, T, eqb}
use Rattle.std.proofs.Common.{List, [], ◌∷◌, ◌++◌, length, map, find, Option, None, Some}
use Rattle.std.proofs.Common.{option_map, refl, sym, ap, ◌∙◌, nat_eq, arith, ◌||◌, ◌-◌, ⊎_elim}
use Rattle.std.proofs.Common.{take, length-append}
use Rattle.std.specs.Prelude.{slice_get}
use Rattle.std.specs.List.{list_any, IsDistinct}
use Rattle.std.specs.Option.{option_to_list}
use Rattle.std.specs.FinMap.{entries, get, len, find as find_key, is_sorted, get-entries}
use Rattle.std.specs.FinMap.{entries_sorted, len-entries}
use Rattle.std.specs.Ordering.{is_eq}
use Rattle.std.specs.Cmp.Lexicographic.{nat_list_cmp_total}
use Rattle.std.proofs.lemmas.Cmp.{tied_itself}
use Rattle.std.proofs.lemmas.Bool.Decides.{nat_tests}
use Rattle.std.proofs.lemmas.Bool.{cases_lt}
use Rattle.std.proofs.lemmas.List.{length-map, take_all, take-append-le}
use Rattle.std.proofs.lemmas.Map.Steps.{length-le_from_distinct_below}
use Rattle.streetmap_batch.specs.Text.{Text, text_cmp}
use Rattle.streetmap_ledger.specs.State.{State, AcceptedBatch}
use Rattle.streetmap_ledger.specs.WellFormed.{IsState}
use Rattle.streetmap_ledger.proofs.TextMaps.{first, second}
use Rattle.streetmap_ledger.specs.Kept.{batch_in}
use Rattle.streetmap_replay.specs.Journal.{kept_text, JournalIsWhole}
use Rattle.streetmap_replay.proofs.Texts.{kept_with, text_with, texts_to, texts_in, text_is}
use Rattle.streetmap_replay.proofs.Texts.{texts_are, journal_is}
use Rattle.streetmap_replay.proofs.Serials.{none_beyond, none_some, values_of, none_below, under}
use Rattle.streetmap_replay.proofs.Serials.{apart}
use Rattle.streetmap_ledger.proofs.AllThere.{none_all}
use Rattle.streetmap_ledger.proofs.Nexts.{get_last}

abbrev serials_of : List (Text × AcceptedBatch) → List ℕ
serials_of es = map (λ (e : Text × AcceptedBatch). e.1.serial) es

other_eqb : (a b : ℕ) → nat_eq a b ≡ false → eqb b a ≡ false
other_eqb a b e = grind (arith, nat_tests)

none_by : (n : ℕ) (e : Text × AcceptedBatch) (rest : Option AcceptedBatch) (later : Bool) →
    (rest ≡ None → later ≡ false) → (b : Bool) → nat_eq e.1.serial n ≡ b →
    cond b (Some e.1) rest ≡ None → (eqb n e.1.serial || later) ≡ false
none_by n e rest later more true is h = none_some e.1 (sym h)
none_by n e rest later more false is h = rw (other_eqb e.1.serial n is, more h) refl

-- if no value is found with a serial, it is none of the serials
none_any : (n : ℕ) (es : List (Text × AcceptedBatch)) →
    find (λ (k : AcceptedBatch). nat_eq k.serial n) (values_of es) ≡ None →
    list_any (eqb n) (serials_of es) ≡ false
none_any n [] h = refl
none_any n (e ∷ es) h = none_by n e (find (λ (k : AcceptedBatch). nat_eq k.serial n) (values_of es))
    (list_any (eqb n) (serials_of es)) (none_any n es) (nat_eq e.1.serial n) refl h

any_found : (n : ℕ) (es : List (Text × AcceptedBatch)) → list_any (eqb n) (serials_of es) ≡ true →
    (v : AcceptedBatch) × (find (λ (k : AcceptedBatch). nat_eq k.serial n) (values_of es) ≡ Some v)
any_found n es any = by (find (λ (k : AcceptedBatch). nat_eq k.serial n) (values_of es)) refl where
  by : (o : Option AcceptedBatch) →
      find (λ (k : AcceptedBatch). nat_eq k.serial n) (values_of es) ≡ o →
      (v : AcceptedBatch) × (o ≡ Some v)
  by (Some v) is = (v, refl)
  by None is = let none = none_any n es is in absurd cc

pub is_serial : (a b : ℕ) → nat_eq a b ≡ true → a ≡ b
is_serial a b e = grind (arith, nat_tests)

-- each entry has a serial, and no two have the same one
abbrev OneEach : List (Text × AcceptedBatch) → Type 0
OneEach es = (key other : Text) (k l : AcceptedBatch) → find_key text_cmp key es ≡ Some k →
    find_key text_cmp other es ≡ Some l → k.serial ≡ l.serial → key ≡ other

here : (e : Text × AcceptedBatch) (es : List (Text × AcceptedBatch)) →
    find_key text_cmp e.0 (e ∷ es) ≡ Some e.1
here e es = ap (λ q. cond (is_eq q) (Some e.1) (find_key text_cmp e.0 es))
    (tied_itself nat_list_cmp_total e.0)

there : (e : Text × AcceptedBatch) (es : List (Text × AcceptedBatch)) (key : Text)
    (v : AcceptedBatch) → T (is_sorted text_cmp (e ∷ es)) → find_key text_cmp key es ≡ Some v →
    find_key text_cmp key (e ∷ es) ≡ Some v
there e es key v sorted found = apart e es v key (first _ _ sorted) found (text_cmp key e.0) refl

rest_each : (e : Text × AcceptedBatch) (es : List (Text × AcceptedBatch)) →
    T (is_sorted text_cmp (e ∷ es)) → OneEach (e ∷ es) → OneEach es
rest_each e es sorted one key other k l f g same =
    one key other k l (there e es key k sorted f) (there e es other l sorted g) same

new_first : (e : Text × AcceptedBatch) (es : List (Text × AcceptedBatch)) →
    T (is_sorted text_cmp (e ∷ es)) → OneEach (e ∷ es) →
    list_any (eqb e.1.serial) (serials_of es) ≡ false
new_first e es sorted one = by (list_any (eqb e.1.serial) (serials_of es)) refl where
  by : (b : Bool) → list_any (eqb e.1.serial) (serials_of es) ≡ b → b ≡ false
  by false is = refl
  by true is =
      let v = any_found e.1.serial es is in
      let u = under (λ (k : AcceptedBatch). nat_eq k.serial e.1.serial) es v.0 (second _ _ sorted)
      v.1 in
      let same : u.0 ≡ e.0 = one u.0 e.0 v.0 e.1 (there e es u.0 v.0 sorted u.1) (here e es)
      (is_serial v.0.serial e.1.serial u.2) in
      none_some v.0 (sym (none_below e.0 es (first _ _ sorted))
      ∙ (ap (λ (k : Text). find_key text_cmp k es) (sym same) ∙ u.1))

distinct : (es : List (Text × AcceptedBatch)) → T (is_sorted text_cmp es) → OneEach es →
    IsDistinct eqb (serials_of es)
unfolding IsDistinct
distinct [] sorted one = tt
distinct (e ∷ es) sorted one = (
  none_all e.1.serial (serials_of es) (new_first e es sorted one),
  distinct es (second _ _ sorted) (rest_each e es sorted one),
)

-- ---- lists

get_take : {A : Type 0} (n : ℕ) (xs : List A) → slice_get (take (suc n) xs) n ≡ slice_get xs n
get_take zero [] = refl
get_take zero (x ∷ xs) = refl
get_take (suc n) [] = refl
get_take (suc n) (x ∷ xs) = get_take n xs

get_past : {A : Type 0} (xs : List A) (n : ℕ) → length xs ≤ n → slice_get xs n ≡ None
get_past [] n h = refl
get_past (x ∷ xs) zero h = absurd (omega (arith, h))
get_past (x ∷ xs) (suc n) h = get_past xs n (omega (arith, h))

-- ---- states

module _ (s : State) (sound : IsState s) where
  found_get : (key : Text) (k : AcceptedBatch) → find_key text_cmp key (entries s.keys) ≡ Some k →
      get s.keys key ≡ Some k
  found_get key k e = get-entries s.keys key ∙ e

  one_each : OneEach (entries s.keys)
  one_each key other k l f g same =
      sound.one_each key other k l (found_get key k f) (found_get other l g) same

  -- a number among the serials is one from 1 to the number of keys
  within : (n : ℕ) → list_any (eqb n) (serials_of (entries s.keys)) ≡ true →
      (1 ≤ n) × (n ≤ len s.keys)
  within n any =
      let v = any_found n (entries s.keys) any in
      let u = under (λ (k : AcceptedBatch). nat_eq k.serial n) (entries s.keys) v.0
      (entries_sorted s.keys) v.1 in
      let is : v.0.serial ≡ n = is_serial v.0.serial n u.2 in
      let low = sound.from_one u.0 v.0 (found_get u.0 v.0 u.1) in
      let high = sound.to_count u.0 v.0 (found_get u.0 v.0 u.1) in
      (omega (arith, is, low), omega (arith, is, high))

  no_zero : list_any (eqb 0) (serials_of (entries s.keys)) ≡ false
  no_zero = by (list_any (eqb 0) (serials_of (entries s.keys))) refl where
    by : (b : Bool) → list_any (eqb 0) (serials_of (entries s.keys)) ≡ b → b ≡ false
    by false is = refl
    by true is = let low = within 0 is in absurd (omega (arith, low.0))

  -- 0, a number, and the serials
  both_new : (n : ℕ) → 1 ≤ n → list_any (eqb n) (serials_of (entries s.keys)) ≡ false →
      IsDistinct eqb (0 ∷ n ∷ serials_of (entries s.keys))
  unfolding IsDistinct
  both_new n low none = (
    (apart_zero n low, none_all 0 (serials_of (entries s.keys)) no_zero),
    (
      none_all n (serials_of (entries s.keys)) none,
      distinct (entries s.keys) (entries_sorted s.keys) one_each,
    ),
  ) where
    apart_zero : (n : ℕ) → 1 ≤ n → eqb 0 n ≡ false
    apart_zero n low = grind (arith, nat_tests)

  all_below : (n : ℕ) → n ≤ len s.keys → (q : ℕ) →
      (eqb q 0 || (eqb q n || list_any (eqb q) (serials_of (entries s.keys)))) ≡ true →
      q < len s.keys + 1
  all_below n high q any = by (eqb q 0) (eqb q n) (list_any (eqb q) (serials_of (entries s.keys)))
      refl refl refl any where
        by : (a b c : Bool) → eqb q 0 ≡ a → eqb q n ≡ b →
            list_any (eqb q) (serials_of (entries s.keys)) ≡ c → (a || (b || c)) ≡ true →
            q < len s.keys + 1
        by true b c e f g h = grind (arith, nat_tests)
        by false true c e f g h = grind (arith, nat_tests)
        by false false true e f g h = let in_it = within q g in omega (arith, in_it.1)
        by false false false e f g h = absurd cc

  pub kept_there : (n : ℕ) → 1 ≤ n → n ≤ len s.keys →
      (v : AcceptedBatch) × (kept_with s.keys n ≡ Some v)
  kept_there n low high = by (kept_with s.keys n) refl where
    by : (o : Option AcceptedBatch) → kept_with s.keys n ≡ o → (v : AcceptedBatch) × (o ≡ Some v)
    by (Some v) is = (v, refl)
    by None is =
        let none = none_any n (entries s.keys) is in
        let most = length-le_from_distinct_below (0 ∷ n ∷ serials_of (entries s.keys))
        (len s.keys + 1) (both_new n low none) (all_below n high) in
        let many = length-map (entries s.keys) (λ (e : Text × AcceptedBatch). e.1.serial) in
        let size = len-entries s.keys in
        absurd (omega (arith, most, many, size))

  -- n texts
  as_many : (n : ℕ) → n ≤ len s.keys → length (texts_to s.keys n) ≡ n
  as_many zero high = refl
  as_many (suc n) high =
      let v = kept_there (suc n) (omega arith) high in
      let rest = as_many n (omega (arith, high)) in
      let more : texts_to s.keys (suc n) ≡ texts_to s.keys n ++ v.0.text ∷ [] =
      ap (λ (o : Option AcceptedBatch). texts_to s.keys n ++ option_to_list
      (option_map (λ (k : AcceptedBatch). k.text) o)) v.1 in
      let long = length-append (texts_to s.keys n) (v.0.text ∷ []) in
      ap length more ∙ omega (arith, rest, long)

  -- the first n of more texts
  first_of_more : (n d : ℕ) → n + d ≤ len s.keys →
      take n (texts_to s.keys (n + d)) ≡ texts_to s.keys n
  first_of_more n zero high =
      let long = as_many n (omega (arith, high)) in
      let same : n + 0 ≡ n = omega arith in
      ap (λ (m : ℕ). take n (texts_to s.keys m)) same
      ∙ take_all n (texts_to s.keys n) (omega (arith, long))
  first_of_more n (suc d) high =
      let low : n + d ≤ len s.keys = omega (arith, high) in
      let long = as_many (n + d) low in
      let next : n + suc d ≡ suc (n + d) = omega arith in
      ap (λ (m : ℕ). take n (texts_to s.keys m)) next
      ∙ (take-append-le n (texts_to s.keys (n + d))
      (option_to_list (text_with s.keys (suc (n + d)))) (omega (arith, long))
      ∙ first_of_more n d low)

  first_texts : (n : ℕ) → n ≤ len s.keys → texts_to s.keys n ≡ take n (texts_in s)
  first_texts n high =
      let rest : n + (len s.keys - n) ≡ len s.keys = omega (arith, high) in
      sym (ap (λ (m : ℕ). take n (texts_to s.keys m)) (sym rest)
      ∙ first_of_more n (len s.keys - n) (omega (arith, rest)))

  low_line : (n : ℕ) → n < len s.keys → text_with s.keys (suc n) ≡ slice_get (texts_in s) n
  low_line n low =
      let v = kept_there (suc n) (omega arith) (omega (arith, low)) in
      let more : texts_to s.keys (suc n) ≡ texts_to s.keys n ++ v.0.text ∷ [] =
      ap (λ (o : Option AcceptedBatch). texts_to s.keys n ++ option_to_list
      (option_map (λ (k : AcceptedBatch). k.text) o)) v.1 in
      let long : length (texts_to s.keys n) ≡ n = as_many n (omega (arith, low)) in
      let first : texts_to s.keys (suc n) ≡ take (suc n) (texts_in s) =
      first_texts (suc n) (omega (arith, low)) in
      ap (λ (o : Option AcceptedBatch). option_map (λ (k : AcceptedBatch). k.text) o) v.1
      ∙ sym (sym (get_take n (texts_in s))
      ∙ (ap (λ (ts : List Text). slice_get ts n) (sym first ∙ more)
      ∙ get_last (texts_to s.keys n) v.0.text n long))

  high_line : (n : ℕ) → len s.keys ≤ n → text_with s.keys (suc n) ≡ slice_get (texts_in s) n
  high_line n high =
      let long = as_many (len s.keys) (omega arith) in
      ap (λ (o : Option AcceptedBatch). option_map (λ (k : AcceptedBatch). k.text) o)
      (none_beyond s.keys (suc n) (λ key k e. let most = sound.to_count key k e in
      omega (arith, most, high)))
      ∙ sym (get_past (texts_in s) n (omega (arith, long, high)))

  line_at : (n : ℕ) → text_with s.keys (suc n) ≡ slice_get (texts_in s) n
  line_at n = ⊎_elim (low_line n) (high_line n) (cases_lt n (len s.keys))

pub journal_is_whole : JournalIsWhole
journal_is_whole s sound = (
  ap length (journal_is s) ∙ as_many s sound (len s.keys) (omega arith),
  λ n. (let next : n + 1 ≡ suc n = omega arith in
      ap (λ (m : ℕ). option_map kept_text (batch_in s m)) next
      ∙ (text_is s (suc n) ∙ (line_at s sound n
      ∙ ap (λ (ts : List Text). slice_get ts n) (sym (journal_is s))))),
  λ n high. texts_are s n ∙ (first_texts s sound n high
      ∙ ap (λ (ts : List Text). take n ts) (sym (journal_is s))),
)
