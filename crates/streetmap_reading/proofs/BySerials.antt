-- What a query over the batches shows in order of their serials.
use Rattle.std.proofs.Common.{nat_le, ◌^◌, ◌≡◌, ◌≢◌, inl, inr, ℕ, zero, suc, pos, ◌+◌, ◌-◌, ◌<◌}
use Rattle.std.proofs.Common.{◌≤◌, List, [], ◌∷◌}
use Rattle.std.proofs.Common.{◌++◌, length, map, filter, true, false, get_or, eqb}
use Rattle.std.proofs.Common.{Some}
use Rattle.std.proofs.Common.{refl, sym, ap, ap₂, subst, ◌∙◌, arith}
use Rattle.std.proofs.Common.{int_cmp}
use Rattle.std.specs.List.{IsDistinct}
use Rattle.std.specs.Option.{option_to_list}
use Rattle.std.specs.Ordering.{is_lt}
use Rattle.std.specs.List.Sorted.{IsPermutation, IsSorted}
use Rattle.std.proofs.lemmas.Bool.{false_from_ne_true}
use Rattle.std.proofs.lemmas.Bool.Decides.{nat_tests}
use Rattle.std.proofs.lemmas.Int.{ints}
use Rattle.std.proofs.lemmas.List.{get_or-map, length-map}
use Rattle.std.proofs.lemmas.List.Sorted.{IsPermutation-map, IsPermutation-sym}
use Rattle.std.proofs.lemmas.List.Sorted.{Contains-permutation}
use Rattle.std.proofs.lemmas.Map.Keys.{IsDistinct-IsPermutation, apart_from_distinct}
use Rattle.sqlite.specs.declared.types.Value.TheVariants.{Null, Int}
use Rattle.sqlite.specs.Order.{Row, column}
use Rattle.sqlite.specs.Term.{Term}
use Rattle.sqlite.specs.Query.{Query, IsAnswerAs, Output, output, output_cmp}
use Rattle.sqlite.specs.Program.{overlay}
use Rattle.sqlite_sql.specs.Term.{eval_all}
use Rattle.sqlite_value.proofs.OrderLemmas.{value_cmp-Int}
use Rattle.sqlite_trees.specs.Tree.{Trees, IsAscending}
use Rattle.sqlite_rules.specs.Lists.{Has}
use Rattle.sqlite_rules.proofs.ListLemmas.{all_has, all_from, has_contained, contains_had}
use Rattle.streetmap_ledger.specs.State.{State}
use Rattle.streetmap_ledger.specs.WellFormed.{IsState}
use Rattle.streetmap_rows.proofs.OneRowChosen.{picked, staged}
use Rattle.streetmap_rows.proofs.OrderedRows.{ordered_query, keeps, has_mapped, mapped_has, ended}
use Rattle.streetmap_ledger.specs.Kept.{KeyedBatch, batch_in, batch_count, batches_next}
use Rattle.streetmap_ledger.proofs.Serials.{found_under}
use Rattle.streetmap_ledger.proofs.AllThere.{kept_there}
use Rattle.streetmap_ledger.proofs.Nexts.{nexts_split}
use Rattle.streetmap_reading.specs.Serials.{row_of}
use Rattle.streetmap_rows.proofs.OneState.{nat_in as number}

-- a serial, and what is shown with it
abbrev pub Numbered : Type 0
Numbered = ℕ × Row

-- ---- serials that rise without a gap

-- each number is above those before it, and above this one
abbrev pub Rises : ℕ → List Numbered → Type 0
Rises n [] = Unit {0}
Rises n (e ∷ es) = (n < e.0) × Rises e.0 es

rises_has : (n : ℕ) (es : List Numbered) (e : Numbered) → Rises n es → Has es e → n < e.0
rises_has n [] e up h = absurd h
rises_has n (x ∷ es) e up (inl same) =
    let first = up.0 in let is : e.0 ≡ x.0 = ap (λ (y : Numbered). y.0) same in omega
    (arith, first, is)
rises_has n (x ∷ es) e up (inr later) =
    let first = up.0 in let rest = rises_has x.0 es e up.1 later in omega (arith, first, rest)

module _ (s : State) (sound : IsState s) where
  -- each shows the batch of its serial
  abbrev pub Shows : List Numbered → Type 0
  Shows es = (e : Numbered) → Has es e
      → (b : KeyedBatch) × (batch_in s e.0 ≡ Some b) × (e.1 ≡ row_of b)

  -- each batch after a serial is shown
  abbrev pub ShowsAll : ℕ → List Numbered → Type 0
  ShowsAll n es = (m : ℕ) (b : KeyedBatch) → n < m → batch_in s m ≡ Some b
      → (row : Row) × Has es (m, row)

  -- the first is that with the next serial
  first_is : (n : ℕ) (e : Numbered) (es : List Numbered) (row : Row)
      → Rises n (e ∷ es) → Has (e ∷ es) (n + 1, row) → e.0 ≡ n + 1
  first_is n e es row up (inl same) = sym (ap (λ (y : Numbered). y.0) same)
  first_is n e es row up (inr later) =
      let first = up.0 in
      let rest = rises_has e.0 es (n + 1, row) up.1 later in
      absurd (omega (arith, first, rest))

  later_all : (n : ℕ) (e : Numbered) (es : List Numbered)
      → e.0 ≡ n + 1 → ShowsAll n (e ∷ es) → ShowsAll (n + 1) es
  later_all n e es is all m b over found = by (all m b (omega (arith, over)) found) where
    by : (row : Row) × Has (e ∷ es) (m, row) → (row : Row) × Has es (m, row)
    by (row, inl same) =
        let at : m ≡ e.0 = ap (λ (y : Numbered). y.0) same in
        absurd (omega (arith, at, is, over))
    by (row, inr later) = (row, later)

  pub rising_is : (k n : ℕ) (es : List Numbered) → k ≡ batch_count s - n
      → Rises n es → Shows es → ShowsAll n es
      → map (λ (e : Numbered). e.1) es ≡ map row_of (batches_next s n k)
  rising_is zero n [] all up each there = refl
  rising_is zero n (e ∷ es) all up each there =
      let b = each e (inl refl) in
      let u = found_under s e.0 b.0 b.1 in
      let high = sound.to_count b.0.0 b.0.1 u.0 in
      let first = up.0 in
      absurd (omega (arith, high, first, all, u.1))
  rising_is (suc k) n [] all up each there =
      let b = kept_there s sound (n + 1) (omega arith) (omega (arith, all)) in
      absurd ((there (n + 1) b.0 (omega arith) b.1).1)
  rising_is (suc k) n (e ∷ es) all up each there =
      let b = kept_there s sound (n + 1) (omega arith) (omega (arith, all)) in
      let row = there (n + 1) b.0 (omega arith) b.1 in
      let at = first_is n e es row.0 up row.1 in
      let own = each e (inl refl) in
      let both : Some own.0 ≡ Some b.0 = sym own.1 ∙ (ap (batch_in s) at ∙ b.1) in
      let same : own.0 ≡ b.0 = cc in
      let shown : e.1 ≡ row_of b.0 = own.2 ∙ ap row_of same in
      let up_next = subst (λ m. Rises m es) at up.1 in
      let rest = rising_is k (n + 1) es (omega (arith, all)) up_next (λ x h. each x (inr h))
      (later_all n e es at there) in
      let more : suc k ≡ 1 + k = omega arith in
      let split = ap (batches_next s n) more ∙ nexts_split s n 1 k in
      let one : batches_next s n 1 ≡ b.0 ∷ [] = ap option_to_list b.1 in
      (λ i. shown i ∷ rest i)
      ∙ sym (ap (map row_of) (split ∙ ap (λ bs. bs ++ batches_next s (n + 1) k) one))

-- ---- outputs in order

abbrev pub number_in : Row → ℕ
number_in r = number (column r 7)

abbrev unkey : Numbered → Output
unkey e = (Int (pos e.0) ∷ [], e.1)

abbrev key : Output → Numbered
key o = (number (column o.0 0), o.1)

keyed_again : (es : List Numbered) → map key (map unkey es) ≡ es
keyed_again [] = refl
keyed_again (e ∷ es) = ap (λ l. e ∷ l) (keyed_again es)

unkeyed_again : (os : List Output) → ((o : Output) → Has os o → unkey (key o) ≡ o)
    → map unkey (map key os) ≡ os
unkeyed_again [] each = refl
unkeyed_again (o ∷ os) each = λ i. each o (inl refl) i ∷ unkeyed_again os (λ x h. each x (inr h)) i

moved : {A : Type 0} (xs ys : List A) (x : A) → IsPermutation xs ys → Has xs x → Has ys x
moved xs ys x p h = has_contained ys x (Contains-permutation xs ys x p (contains_had xs x h))

-- numbers one by one
abbrev numbers : List Numbered → List ℕ
numbers es = map (λ (e : Numbered). e.0) es

abbrev IsBelowNext : List Numbered → Type 0
IsBelowNext es = (k : ℕ) → suc k < length es
    → get_or (numbers es) k 0 < get_or (numbers es) (suc k) 0

above_first : (e : Numbered) (fs : List Numbered) → IsBelowNext (e ∷ fs)
    → (k : ℕ) → k < length fs → e.0 < get_or (numbers fs) k 0
above_first e fs up zero h = up 0 (omega (arith, h))
above_first e fs up (suc k) h =
    let before : e.0 < get_or (numbers fs) k 0 = above_first e fs up k (omega (arith, h)) in
    let step : get_or (numbers fs) k 0 < get_or (numbers fs) (suc k) 0 =
    up (suc k) (omega (arith, h)) in
    omega (arith, before, step)

rises_by : (n : ℕ) (es : List Numbered)
    → ((k : ℕ) → k < length es → n < get_or (numbers es) k 0) → IsBelowNext es → Rises n es
rises_by n [] above each = tt
rises_by n (e ∷ es) above each = (
  above 0 (omega arith),
  rises_by e.0 es (above_first e es each) (λ k h. each (suc k) (omega (arith, h))),
)

module _ (tree : ℕ) (tests project : List Term) (params : Row) where
  abbrev query : Query
  query = ordered_query tree tests project 7

  abbrev shows : Row → Row
  shows r = eval_all project (params ∷ r ∷ [])

  abbrev output_of : Row → Output
  output_of r = (column r 7 ∷ [], shows r)

  abbrev pub keyed_of : Row → Numbered
  keyed_of r = (number_in r, shows r)

  mapped : (rows : List Row) → map (output query) (map (λ r. params ∷ r ∷ []) rows)
      ≡ map output_of rows
  mapped [] = refl
  mapped (r ∷ rows) = ap (λ l. output_of r ∷ l) (mapped rows)

  by_number : (a b : Numbered)
      → output_cmp query (unkey a) (unkey b) ≡ int_cmp (pos a.0) (pos b.0)
  by_number a b = rw (value_cmp-Int (pos a.0) (pos b.0)) (ended (int_cmp (pos a.0) (pos b.0)))

  not_less : (a b : ℕ) → is_lt (int_cmp (pos b) (pos a)) ≡ false → a ≤ b
  not_less a b h = grind (arith, nat_tests, ints)

  other : (a b : ℕ) → eqb a b ≡ false → a ≢ b
  other a b h = grind (arith, nat_tests)

  -- in order and with no number twice, so each is below the next
  next_above : (es : List Numbered) → IsSorted (output_cmp query) (map unkey es)
      → IsDistinct eqb (numbers es) → (k : ℕ) → k + 1 < length es
      → get_or (numbers es) k 0 < get_or (numbers es) (k + 1) 0
  next_above es sorted distinct k low =
      let long = length-map es (λ (e : Numbered). e.0) in
      let wide = length-map es unkey in
      let d : Numbered = (0, []) in
      let one : get_or (numbers es) k 0 ≡ (get_or es k d).0 =
      get_or-map (λ (e : Numbered). e.0) es k d 0 (omega (arith, low)) in
      let two : get_or (numbers es) (k + 1) 0 ≡ (get_or es (k + 1) d).0 =
      get_or-map (λ (e : Numbered). e.0) es (k + 1) d 0 (omega (arith, low)) in
      let before : get_or (map unkey es) k (unkey d) ≡ unkey (get_or es k d) =
      get_or-map unkey es k d (unkey d) (omega (arith, low)) in
      let after : get_or (map unkey es) (k + 1) (unkey d) ≡ unkey (get_or es (k + 1) d) =
      get_or-map unkey es (k + 1) d (unkey d) (omega (arith, low)) in
      let order = ap is_lt (sym (by_number (get_or es (k + 1) d) (get_or es k d)))
      ∙ (ap₂ (λ x y. is_lt (output_cmp query x y)) (sym after) (sym before)
      ∙ sorted k (unkey d) (omega arith) (omega (arith, low, wide))) in
      let least = not_less (get_or es k d).0 (get_or es (k + 1) d).0 order in
      let apart = apart_from_distinct eqb (numbers es) k (k + 1) 0 distinct (omega arith)
      (omega (arith, low, long)) in
      let unlike = other (get_or (numbers es) k 0) (get_or (numbers es) (k + 1) 0) apart in
      omega (arith, least, one, two, unlike)

  below_next : (es : List Numbered) → IsSorted (output_cmp query) (map unkey es)
      → IsDistinct eqb (numbers es) → IsBelowNext es
  below_next es sorted distinct k low =
      let next : k + 1 ≡ suc k = omega arith in
      let step = next_above es sorted distinct k (omega (arith, low)) in
      subst (λ i. get_or (numbers es) k 0 < get_or (numbers es) i 0) next step

  distinct : (rs : List Row) → IsAscending (λ a b. number_in a ≢ number_in b) rs
      → IsDistinct eqb (numbers (map keyed_of rs))
  unfolding IsDistinct
  distinct [] apart = tt
  distinct (r ∷ rs) apart = (
    all_from _ _ (λ n h. false_from_ne_true _ (λ same.
        let e = mapped_has (λ (e : Numbered). e.0) (map keyed_of rs) n h in
        let x = mapped_has keyed_of rs e.0 e.1 in
        let at = e.2 ∙ ap (λ (y : Numbered). y.0) x.2 in
        all_has _ rs x.0 apart.0 x.1 (is_same (number_in r) n same ∙ at))),
    distinct rs apart.1,
  )
    where
      is_same : (a b : ℕ) → eqb a b ≡ true → a ≡ b
      is_same a b h = grind (arith, nat_tests)

  module _ (s : State) (sound : IsState s) (n k : ℕ) (all : k ≡ batch_count s - n) (db : Trees)
      (low : nat_le (2 ^ 31) tree ≡ false)
      (apart : IsAscending (λ a b. number_in a ≢ number_in b)
      (filter (keeps tests params) (db tree)))
      (named : (r : Row) → Has (filter (keeps tests params) (db tree)) r → column r 7
      ≡ Int (pos (number_in r)))
      (above : (r : Row) → Has (filter (keeps tests params) (db tree)) r → n < number_in r)
      (each : (r : Row) → Has (filter (keeps tests params) (db tree)) r
      → (b : KeyedBatch) × (batch_in s (number_in r) ≡ Some b) × (shows r ≡ row_of b))
      (there : (m : ℕ) (b : KeyedBatch) → n < m → batch_in s m ≡ Some b
      → (r : Row) × Has (filter (keeps tests params) (db tree)) r × (number_in r ≡ m))
      (shown : List Row) (answer : IsAnswerAs Null query (overlay db []) params shown) where
    rows : List Row
    rows = filter (keeps tests params) (db tree)

    qs : List Numbered
    qs = map keyed_of rows

    es : List Numbered
    es = map key answer.ordered

    outputs_are : (rs : List Row) → ((r : Row) → Has rs r → column r 7 ≡ Int (pos (number_in r)))
        → map output_of rs ≡ map unkey (map keyed_of rs)
    outputs_are [] name = refl
    outputs_are (r ∷ rs) name =
        ap₂ (λ (x : Output) l. x ∷ l) (λ i. (name r (inl refl) i ∷ [], shows r))
        (outputs_are rs (λ x h. name x (inr h)))

    same : IsPermutation (map unkey qs) answer.ordered
    unfolding qs rows
    same =
        let of_rows = filter (keeps tests params) (db tree) in
        let found = answer.grouped ∙ staged db tree tests params low
        ∙ picked (keeps tests params) (λ r. params ∷ r ∷ []) (db tree) in
        subst (λ l. IsPermutation l answer.ordered)
        (answer.distinct ∙ ap (map (output query)) found ∙ mapped of_rows
        ∙ outputs_are of_rows named)
        answer.same

    keyed_move : IsPermutation qs es
    unfolding es
    keyed_move =
        subst (λ l. IsPermutation l (map key answer.ordered)) (keyed_again qs)
        (IsPermutation-map key (map unkey qs) answer.ordered same)

    ordered_is : map unkey es ≡ answer.ordered
    unfolding es
    ordered_is = unkeyed_again answer.ordered (λ o h.
        let back = IsPermutation-sym _ _ same in
        let e = mapped_has unkey qs o (moved answer.ordered (map unkey qs) o back h) in
        ap (λ x. unkey (key x)) e.2 ∙ sym e.2)

    flips : (x y : ℕ) → eqb x y ≡ eqb y x
    flips x y = grind (arith, nat_tests)

    -- what is listed is what a row shows
    row_with : (e : Numbered) → Has es e → (r : Row) × Has rows r × (e ≡ keyed_of r)
    unfolding qs rows
    row_with e h = mapped_has keyed_of rows e (moved es qs e (IsPermutation-sym _ _ keyed_move) h)

    said : (e : Numbered) → Has es e → (b : KeyedBatch) × (batch_in s e.0 ≡ Some b)
        × (e.1 ≡ row_of b)
    unfolding rows
    said e h =
        let r = row_with e h in
        let b = each r.0 r.1 in
        (b.0, ap (λ (x : Numbered). batch_in s x.0) r.2 ∙ b.1, ap (λ (x : Numbered). x.1) r.2 ∙ b.2)

    listed : (m : ℕ) (b : KeyedBatch) → n < m → batch_in s m ≡ Some b → (row : Row)
        × Has es (m, row)
    unfolding qs rows
    listed m b over is =
        let r = there m b over is in
        let had = moved qs es (keyed_of r.0) keyed_move (has_mapped keyed_of rows r.0 r.1) in
        (shows r.0, subst (λ x. Has es (x, shows r.0)) r.2 had)

    has_at : (l : List Numbered) (i : ℕ) → i < length l → Has l (get_or l i (0, []))
    has_at [] i h = absurd (omega (arith, h))
    has_at (x ∷ l) zero h = inl refl
    has_at (x ∷ l) (suc i) h = inr (has_at l i (omega (arith, h)))

    up : Rises n es
    unfolding qs rows
    up = rises_by n es
        (λ i h.
        let d : Numbered = (0, []) in
        let r = row_with (get_or es i d) (has_at es i h) in
        let at = get_or-map (λ (e : Numbered). e.0) es i d 0 h in
        let over = above r.0 r.1 in
        omega (arith, over, at, ap (λ (x : Numbered). x.0) r.2))
        (below_next es (subst (IsSorted (output_cmp query)) (sym ordered_is) answer.sorted)
        (IsDistinct-IsPermutation eqb flips _ _
        (IsPermutation-map (λ (e : Numbered). e.0) qs es keyed_move)
        (distinct (filter (keeps tests params) (db tree)) apart)))

    twice : (xs : List Numbered)
        → map (λ (o : Output). o.1) (map unkey xs) ≡ map (λ (e : Numbered). e.1) xs
    twice [] = refl
    twice (x ∷ xs) = ap (λ l. x.1 ∷ l) (twice xs)

    -- the query shows the batches after a serial, in order of their serials
    pub shows_next : shown ≡ map row_of (batches_next s n k)
    shows_next =
        answer.shown ∙ (ap (map (λ (o : Output). o.1)) (sym ordered_is)
        ∙ (twice es ∙ rising_is s sound k n es all up said listed))
