-- What is kept with a serial, if one more key is kept.
use Rattle.std.proofs.Common.{◌≡◌, ℕ, zero, suc, ◌<◌, Bool, true, false, cond, T, List, [], ◌∷◌}
use Rattle.std.proofs.Common.{◌++◌, map, find, Option, None, Some, option_map, refl, sym, ap, ◌∙◌}
use Rattle.std.proofs.Common.{nat_eq, arith}
use Rattle.std.specs.Option.{option_to_list}
use Rattle.std.specs.Ordering.{is_eq}
use Rattle.std.specs.declared.cmp.Ordering.{Ordering}
use Rattle.std.specs.declared.cmp.Ordering.TheVariants.{Less, Equal, Greater}
use Rattle.std.specs.Cmp.Lexicographic.{nat_list_cmp_total}
use Rattle.std.specs.FinMap.{entries, get, insert, put, find as find_key, is_sorted, get-entries}
use Rattle.std.specs.FinMap.{entries_sorted, entries-insert}
use Rattle.std.specs.FinMap.Entries.{by_order, below_all}
use Rattle.std.proofs.lemmas.Cmp.{tied_itself}
use Rattle.std.proofs.lemmas.Bool.Decides.{nat_tests}
use Rattle.streetmap_batch.specs.Text.{Text, text_cmp}
use Rattle.streetmap_ledger.specs.State.{AcceptedBatch}
use Rattle.streetmap_ledger.proofs.TextMaps.{one_text, first, second}
use Rattle.streetmap_replay.proofs.Texts.{Kept, kept_with, text_with, texts_to}
use Rattle.streetmap_ledger.proofs.Serials.{not_equal}

pub none_some : {A : Type 0} {B : Type 0} (x : A) → None ≡ Some x → B
none_some x e = cc

abbrev pub values_of : List (Text × AcceptedBatch) → List AcceptedBatch
values_of es = map (λ (e : Text × AcceptedBatch). e.1) es

-- ---- one more entry in a list

module _ (test : AcceptedBatch → Bool) (key : Text) (v : AcceptedBatch) where
  passed_by : (e : Text × AcceptedBatch) (es : List (Text × AcceptedBatch)) → test v ≡ false →
      (find_key text_cmp key es ≡ None →
      find test (values_of (put text_cmp key v es)) ≡ find test (values_of es))
      → (r : Ordering) → cond (is_eq r) (Some e.1) (find_key text_cmp key es) ≡ None →
      find test (values_of (by_order r ((key, v) ∷ e ∷ es) ((e.0, v) ∷ es)
      (e ∷ put text_cmp key v es))) ≡ find test (values_of (e ∷ es))
  passed_by e es failing rest Less h =
      ap (λ b. cond b (Some v) (find test (values_of (e ∷ es)))) failing
  passed_by e es failing rest Equal h = none_some e.1 (sym h)
  passed_by e es failing rest Greater h = ap (λ o. cond (test e.1) (Some e.1) o) (rest h)

  -- one that does not pass
  passed_over : (es : List (Text × AcceptedBatch)) → test v ≡ false →
      find_key text_cmp key es ≡ None →
      find test (values_of (put text_cmp key v es)) ≡ find test (values_of es)
  passed_over [] failing none = ap (λ b. cond b (Some v) None) failing
  passed_over (e ∷ es) failing none =
      passed_by e es failing (passed_over es failing) (text_cmp key e.0) none

  later : (e : AcceptedBatch) (before after : Option AcceptedBatch) →
      (before ≡ None → after ≡ Some v) → (b : Bool) → cond b (Some e) before ≡ None →
      cond b (Some e) after ≡ Some v
  later e before after rest true h = none_some e (sym h)
  later e before after rest false h = rest h

  found_by : (e : Text × AcceptedBatch) (es : List (Text × AcceptedBatch)) → test v ≡ true →
      find test (values_of (e ∷ es)) ≡ None →
      (find_key text_cmp key es ≡ None → find test (values_of es) ≡ None →
      find test (values_of (put text_cmp key v es)) ≡ Some v)
      → (r : Ordering) → cond (is_eq r) (Some e.1) (find_key text_cmp key es) ≡ None →
      find test (values_of (by_order r ((key, v) ∷ e ∷ es) ((e.0, v) ∷ es)
      (e ∷ put text_cmp key v es))) ≡ Some v
  found_by e es passing alone rest Less h =
      ap (λ b. cond b (Some v) (find test (values_of (e ∷ es)))) passing
  found_by e es passing alone rest Equal h = none_some e.1 (sym h)
  found_by e es passing alone rest Greater h =
      later e.1 (find test (values_of es)) (find test (values_of (put text_cmp key v es))) (rest h)
      (test e.1) alone

  -- the only one that passes
  found_there : (es : List (Text × AcceptedBatch)) → test v ≡ true →
      find_key text_cmp key es ≡ None → find test (values_of es) ≡ None →
      find test (values_of (put text_cmp key v es)) ≡ Some v
  found_there [] passing none alone = ap (λ b. cond b (Some v) None) passing
  found_there (e ∷ es) passing none alone =
      found_by e es passing alone (found_there es passing) (text_cmp key e.0) none

-- ---- what is found among the values is kept under a key

pub none_below : (k : Text) (es : List (Text × AcceptedBatch)) → T (below_all text_cmp k es) →
    find_key text_cmp k es ≡ None
none_below k [] h = refl
none_below k (e ∷ es) h =
    ap (λ b. cond b (Some e.1) (find_key text_cmp k es)) (not_equal _ (first _ _ h))
    ∙ none_below k es (second _ _ h)

abbrev IsUnder : (AcceptedBatch → Bool) → List (Text × AcceptedBatch) → AcceptedBatch → Type 0
IsUnder test es v = (key : Text) × (find_key text_cmp key es ≡ Some v) × (test v ≡ true)

-- a key of the rest is not that of the first
pub apart : (e : Text × AcceptedBatch) (es : List (Text × AcceptedBatch)) (v : AcceptedBatch)
    (key : Text) → T (below_all text_cmp e.0 es) → find_key text_cmp key es ≡ Some v →
    (r : Ordering) → text_cmp key e.0 ≡ r →
    cond (is_eq r) (Some e.1) (find_key text_cmp key es) ≡ Some v
apart e es v key below found Less tie = found
apart e es v key below found Greater tie = found
apart e es v key below found Equal tie =
    none_some v (sym (none_below e.0 es below)
    ∙ (ap (λ (k : Text). find_key text_cmp k es) (sym (one_text key e.0 tie)) ∙ found))

under_by : (test : AcceptedBatch →
    Bool) (e : Text × AcceptedBatch) (es : List (Text × AcceptedBatch)) (v : AcceptedBatch) →
    T (below_all text_cmp e.0 es) → (find test (values_of es) ≡ Some v → IsUnder test es v)
    → (b : Bool) → test e.1 ≡ b → cond b (Some e.1) (find test (values_of es)) ≡ Some v →
    IsUnder test (e ∷ es) v
under_by test e es v below rest true passes h =
    let same : e.1 ≡ v = cc in
    let here : find_key text_cmp e.0 (e ∷ es) ≡ Some e.1 =
    ap (λ q. cond (is_eq q) (Some e.1) (find_key text_cmp e.0 es))
    (tied_itself nat_list_cmp_total e.0) in
    (e.0, here ∙ ap (λ (x : AcceptedBatch). Some x) same, ap test (sym same) ∙ passes)
under_by test e es v below rest false fails h = let more =
    rest h in (more.0, apart e es v more.0 below more.1 (text_cmp more.0 e.0) refl, more.2)

pub under : (test : AcceptedBatch → Bool) (es : List (Text × AcceptedBatch)) (v : AcceptedBatch) →
    T (is_sorted text_cmp es) → find test (values_of es) ≡ Some v → IsUnder test es v
under test [] v sorted e = none_some v e
under test (e ∷ es) v sorted is =
    under_by test e es v (first _ _ sorted) (under test es v (second _ _ sorted)) (test e.1) refl is

-- ---- maps

pub kept_under : (m : Kept) (n : ℕ) (v : AcceptedBatch) → kept_with m n ≡ Some v →
    (key : Text) × (get m key ≡ Some v) × (nat_eq v.serial n ≡ true)
kept_under m n v e =
    let u = under (λ (k : AcceptedBatch). nat_eq k.serial n) (entries m) v (entries_sorted m) e in
    (u.0, get-entries m u.0 ∙ u.1, u.2)

-- nothing is kept with a serial above all kept ones
pub none_beyond : (m : Kept) (n : ℕ) →
    ((key : Text) (k : AcceptedBatch) → get m key ≡ Some k → k.serial < n) → kept_with m n ≡ None
none_beyond m n low = by (kept_with m n) refl where
  by : (o : Option AcceptedBatch) → kept_with m n ≡ o → o ≡ None
  by None e = refl
  by (Some v) e =
      let u = kept_under m n v e in
      let less : v.serial < n = low u.0 v u.1 in
      let same : v.serial ≡ n = is_serial v.serial n u.2 in
      absurd (omega (arith, less, same)) where
        is_serial : (a b : ℕ) → nat_eq a b ≡ true → a ≡ b
        is_serial a b e = grind (arith, nat_tests)

module _ (m : Kept) (key : Text) (v : AcceptedBatch) (new : get m key ≡ None) where
  not_there : find_key text_cmp key (entries m) ≡ None
  not_there = sym (get-entries m key) ∙ new

  serial_other : (a b : ℕ) → a < b → nat_eq b a ≡ false
  serial_other a b less = grind (arith, nat_tests)

  serial_same : (a : ℕ) → nat_eq a a ≡ true
  serial_same a = grind (arith, nat_tests)

  kept_before : (n : ℕ) → n < v.serial → kept_with (insert m key v) n ≡ kept_with m n
  kept_before n less =
      let test = λ (k : AcceptedBatch). nat_eq k.serial n in
      ap (λ (es : List (Text × AcceptedBatch)). find test (values_of es))
      (entries-insert nat_list_cmp_total m key v)
      ∙ passed_over test key v (entries m) (serial_other n v.serial less) not_there

  kept_last : kept_with m v.serial ≡ None → kept_with (insert m key v) v.serial ≡ Some v
  kept_last alone =
      let test = λ (k : AcceptedBatch). nat_eq k.serial v.serial in
      ap (λ (es : List (Text × AcceptedBatch)). find test (values_of es))
      (entries-insert nat_list_cmp_total m key v)
      ∙ found_there test key v (entries m) (serial_same v.serial) not_there alone

  pub texts_before : (n : ℕ) → n < v.serial → texts_to (insert m key v) n ≡ texts_to m n
  texts_before zero less = refl
  texts_before (suc n) less =
      let below : n < v.serial = omega (arith, less) in
      ap (λ (o : Option AcceptedBatch). texts_to (insert m key v) n ++ option_to_list
      (option_map (λ (k : AcceptedBatch). k.text) o)) (kept_before (suc n) less)
      ∙ ap (λ (ts : List Text). ts ++ option_to_list (text_with m (suc n))) (texts_before n below)

  -- one more text, after those with the serials before it
  pub texts_last : (n : ℕ) → v.serial ≡ suc n → kept_with m v.serial ≡ None →
      texts_to (insert m key v) (suc n) ≡ texts_to m n ++ v.text ∷ []
  texts_last n is alone =
      let less : n < v.serial = omega (arith, is) in
      ap (λ (o : Option AcceptedBatch). texts_to (insert m key v) n ++ option_to_list
      (option_map (λ (k : AcceptedBatch). k.text) o))
      (ap (λ (k : ℕ). kept_with (insert m key v) k) (sym is) ∙ kept_last alone)
      ∙ ap (λ (ts : List Text). ts ++ v.text ∷ []) (texts_before n less)
