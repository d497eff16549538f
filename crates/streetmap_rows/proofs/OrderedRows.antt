-- What a query over one table shows in order of the texts in one column.
use Rattle.std.proofs.Common.{nat_le, ◌^◌, ◌≡◌, ◌≢◌, inl, inr, ℕ, ◌+◌, ◌<◌, List, [], ◌∷◌, length, map, filter, Bool, true, false, T, ◌&&◌, cond, get_or}
use Rattle.std.proofs.Common.{Option, Some, None, option_map, Ordering, Less, Equal, Greater, refl, sym, ap, ap₂, subst, ◌∙◌, arith}
use Rattle.std.specs.List.{AllByRecursion, list_all, IsDistinct}
use Rattle.std.specs.Ordering.{is_lt, is_eq, ordering_reverse, ordering_then}
use Rattle.std.specs.List.Sorted.{IsPermutation, IsSorted, IsStrictlySortedBy}
use Rattle.std.specs.FinMap.{is_sorted, find}
use Rattle.std.specs.FinMap.Entries.{below_all, same_entries}
use Rattle.std.specs.Cmp.Lexicographic.{nat_list_cmp_total}
use Rattle.std.specs.Cmp.{eq_by_cmp_equiv}
use Rattle.std.proofs.lemmas.Bool.{both_ways, cases_Bool, false_from_ne_true}
use Rattle.std.proofs.lemmas.Cmp.{tied_itself}
use Rattle.std.proofs.lemmas.List.{get_or-map, length-map}
use Rattle.std.proofs.lemmas.List.Sorted.{IsPermutation-map, IsPermutation-sym, Contains-permutation}
use Rattle.std.proofs.lemmas.Map.Keys.{IsDistinct-IsPermutation, sorted_from_all_adjacent, apart_from_distinct}
use Rattle.sqlite.specs.declared.types.Value.TheVariants.{Null, Text as Words}
use Rattle.sqlite.specs.Order.{Row, column, bytes}
use Rattle.sqlite.specs.Term.{Term, col, holds}
use Rattle.sqlite.specs.Query.{Query, IsAnswerAs, Output, output, output_cmp}
use Rattle.sqlite.specs.Program.{overlay}
use Rattle.sqlite_sql.specs.Term.{eval_all}
use Rattle.sqlite_value.proofs.OrderLemmas.{value_cmp-Text}
use Rattle.sqlite_trees.specs.Tree.{Trees, IsAscending}
use Rattle.sqlite_rules.specs.Lists.{Has}
use Rattle.sqlite_rules.proofs.ListLemmas.{all_has, all_from, has_contained, contains_had}
use Rattle.streetmap_batch.specs.Text.{Text, text_cmp}
use Rattle.streetmap_rows.specs.Holds.{same_text}
use Rattle.streetmap_rows.specs.Queries.{over_in}
use Rattle.streetmap_rows.proofs.OneRowChosen.{picked, staged}
use Rattle.streetmap_rows.proofs.TextKeys.{one_text, text_is, text_self}
use Rattle.streetmap_rows.proofs.Drafts.{rising as upwards}
use Rattle.streetmap_ledger.proofs.TextMaps.{first, second}

-- the rows of this table that pass the tests, in order of the texts in one column, and what is shown of them
abbrev pub ordered_query : ℕ → List Term → List Term → ℕ → Query
ordered_query tree tests project at = over_in tree tests project ((col 1 at, upwards) ∷ [])

-- the row passes the tests
abbrev pub keeps : List Term → Row → Row → Bool
keeps tests params r = list_all (holds (params ∷ r ∷ [])) tests

abbrev pub text_in : ℕ → Row → Text
text_in at r = bytes (column r at)

-- a text, and what is shown with it
abbrev Keyed : Type 0
Keyed = Text × Row

abbrev unkey : Keyed → Output
unkey e = (Words e.0 ∷ [], e.1)

abbrev key : Output → Keyed
key o = (bytes (column o.0 0), o.1)

keyed_again : (es : List Keyed) → map key (map unkey es) ≡ es
keyed_again [] = refl
keyed_again (e ∷ es) = ap (λ l. e ∷ l) (keyed_again es)

pub unkeyed_again : (os : List Output) → ((o : Output) → Has os o → unkey (key o) ≡ o) → map unkey (map key os) ≡ os
unkeyed_again [] each = refl
unkeyed_again (o ∷ os) each = λ i. each o (inl refl) i ∷ unkeyed_again os (λ x h. each x (inr h)) i

pub has_mapped : {A B : Type 0} (f : A → B) (xs : List A) (x : A) → Has xs x → Has (map f xs) (f x)
has_mapped f [] x h = absurd h
has_mapped f (y ∷ xs) x (inl same) = inl (ap f same)
has_mapped f (y ∷ xs) x (inr later) = inr (has_mapped f xs x later)

pub mapped_has : {A B : Type 0} (f : A → B) (xs : List A) (y : B) → Has (map f xs) y → (x : A) × Has xs x × (y ≡ f x)
mapped_has f [] y h = absurd h
mapped_has f (x ∷ xs) y (inl same) = (x, inl refl, same)
mapped_has f (x ∷ xs) y (inr later) = let r = mapped_has f xs y later in (r.0, inr r.1, r.2)

pub moved : {A : Type 0} (xs ys : List A) (x : A) → IsPermutation xs ys → Has xs x → Has ys x
moved xs ys x p h = has_contained ys x (Contains-permutation xs ys x p (contains_had xs x h))

pub ended : (o : Ordering) → ordering_then o Equal ≡ o
ended Less = refl
ended Equal = refl
ended Greater = refl

both : (a b : Bool) → T a → T b → T (a && b)
both true b p q = q
both false b p q = p

below : {V : Type 0} (k : Text) (es : List (Text × V)) → AllByRecursion (λ y. text_cmp k y ≡ Less) (map (λ e. e.0) es) → T (below_all text_cmp k es)
below k [] h = tt
below k (e ∷ es) h = both _ _ (subst (λ r. T (is_lt r)) (sym h.0) tt) (below k es h.1)

pub rising : {V : Type 0} (es : List (Text × V)) → IsStrictlySortedBy text_cmp (map (λ e. e.0) es) → T (is_sorted text_cmp es)
unfolding IsStrictlySortedBy
rising [] h = tt
rising (e ∷ es) h = both _ _ (below e.0 es h.0) (rising es h.1)

not_below : {V : Type 0} (k q : Text) (fs : List (Text × V)) (w : V) → T (below_all text_cmp k fs) → Has fs (q, w) → q ≡ k → ⊥
not_below k q [] w all h is = absurd h
not_below k q (f ∷ fs) w all (inl same) is = subst T (ap is_lt (ap₂ text_cmp (sym is) (sym (ap (λ x. x.0) same)) ∙ tied_itself nat_list_cmp_total q))
    (first _ _ all)
not_below k q (f ∷ fs) w all (inr h) is = not_below k q fs w (second _ _ all) h is

-- what is found in a list in order
pub find_has : {V : Type 0} (es : List (Text × V)) (q : Text) (v : V) → T (is_sorted text_cmp es) → Has es (q, v) → find text_cmp q es ≡ Some v
find_has [] q v up h = absurd h
find_has (e ∷ es) q v up (inl same) = subst (λ x. cond (same_text q x.0) (Some x.1) (find text_cmp q es) ≡ Some v) same (rw (text_self q) refl)
find_has (e ∷ es) q v up (inr later) = elim (cases_Bool (same_text q e.0)) [
  | inl here ↦ absurd (not_below e.0 q es v (first (below_all text_cmp e.0 es) (is_sorted text_cmp es) up) later (text_is q e.0 here))
  | inr other ↦ rw (other, find_has es q v (second (below_all text_cmp e.0 es) (is_sorted text_cmp es) up) later)
]

pub found_in : {V : Type 0} (es : List (Text × V)) (q : Text) (v : V) → find text_cmp q es ≡ Some v → Has es (q, v)
found_in [] q v h = absurd (cc)
found_in (e ∷ es) q v h = elim (cases_Bool (same_text q e.0)) [
  | inl here ↦ inl (let is : Some e.1 ≡ Some v = sym (rw here refl) ∙ h in let same : e.1 ≡ v = cc in λ i. (text_is q e.0 here i, sym same i))
  | inr other ↦ inr (found_in es q v (sym (rw other refl) ∙ h))
]

none_below : {V : Type 0} (k : Text) (fs : List (Text × V)) → T (below_all text_cmp k fs) → find text_cmp k fs ≡ None
none_below k [] all = refl
none_below k (f ∷ fs) all = elim (cases_Bool (same_text k f.0)) [
  | inl here ↦ absurd (subst T (ap is_lt (ap (text_cmp k) (sym (text_is k f.0 here)) ∙ tied_itself nat_list_cmp_total k)) (first _ _ all))
  | inr other ↦ rw other (none_below k fs (second _ _ all))
]

-- ---- what is shown of entries

module _ {V B : Type 0} (view : Text → V → B) where
  abbrev pub viewed : List (Text × V) → List (Text × B)
  viewed es = map (λ e. (e.0, view e.0 e.1)) es

  below_viewed : (k : Text) (es : List (Text × V)) → T (below_all text_cmp k es) → T (below_all text_cmp k (viewed es))
  below_viewed k [] h = tt
  below_viewed k (e ∷ es) h = both _ _ (first _ _ h) (below_viewed k es (second _ _ h))

  sorted_viewed : (es : List (Text × V)) → T (is_sorted text_cmp es) → T (is_sorted text_cmp (viewed es))
  sorted_viewed [] h = tt
  sorted_viewed (e ∷ es) h = both _ _ (below_viewed e.0 es (first _ _ h)) (sorted_viewed es (second _ _ h))

  find_viewed : (es : List (Text × V)) (q : Text) → find text_cmp q (viewed es) ≡ option_map (view q) (find text_cmp q es)
  find_viewed [] q = refl
  find_viewed (e ∷ es) q = elim (cases_Bool (same_text q e.0)) [
    | inl here ↦ rw here (ap (λ k. Some (view k e.1)) (sym (text_is q e.0 here)))
    | inr other ↦ rw other (find_viewed es q)
  ]

  pub rows_viewed : (es : List (Text × V)) → map (λ (e : Text × B). e.1) (viewed es) ≡ map (λ e. view e.0 e.1) es
  rows_viewed [] = refl
  rows_viewed (e ∷ es) = ap (λ l. view e.0 e.1 ∷ l) (rows_viewed es)

-- a list in order of texts, in which each shows the value of its text, and no value is left out
pub record AreListed {V B : Type 0} (value_of : Text → Option V) (view : Text → V → B) (es : List (Text × B)) : Type 0 where
  pub in_order : T (is_sorted text_cmp es)
  pub said : (e : Text × B) → Has es e → (v : V) × (value_of e.0 ≡ Some v) × (e.1 ≡ view e.0 v)
  pub all : (q : Text) (v : V) → value_of q ≡ Some v → (w : B) × Has es (q, w)

module _ {V B : Type 0} (value_of : Text → Option V) (view : Text → V → B) (es : List (Text × B)) (it : AreListed value_of view es) where
  entry_of : (q : Text) → find text_cmp q es ≡ option_map (view q) (value_of q)
  entry_of q = go (find text_cmp q es) refl (value_of q) refl
    where
      go : (o : Option B) → find text_cmp q es ≡ o → (g : Option V) → value_of q ≡ g → find text_cmp q es ≡ option_map (view q) (value_of q)
      go (Some w) some g is = let r = it.said (q, w) (found_in es q w some) in some ∙ ap Some r.2 ∙ sym (ap (option_map (view q)) r.1)
      go None none None is = none ∙ sym (ap (option_map (view q)) is)
      go None none (Some v) is = let r = it.all q v is in absurd (let clash = sym none ∙ find_has es q r.0 it.in_order r.1 in cc)

  -- it shows the entries whose values these are
  pub listed_is : (kept : List (Text × V)) → T (is_sorted text_cmp kept) → ((q : Text) → value_of q ≡ find text_cmp q kept) → es ≡ viewed view kept
  listed_is kept up are = same_entries text_cmp nat_list_cmp_total one_text es (viewed view kept) it.in_order (sorted_viewed view kept up)
      (λ q. entry_of q ∙ ap (option_map (view q)) (are q) ∙ sym (find_viewed view kept q))

-- distinct texts, none of which comes before the previous one, so each is below the next
pub rises : (names : List Text) → ((k : ℕ) → k + 1 < length names → is_lt (text_cmp (get_or names (k + 1) []) (get_or names k [])) ≡ false) →
    IsDistinct same_text names → IsStrictlySortedBy text_cmp names
rises names order distinct = sorted_from_all_adjacent nat_list_cmp_total names [] (λ k low.
    less (get_or names k []) (get_or names (k + 1) []) (apart_from_distinct same_text names k (k + 1) [] distinct (omega arith) low) (order k low))
  where
    less : (a b : Text) → same_text a b ≡ false → is_lt (text_cmp b a) ≡ false → text_cmp a b ≡ Less
    less a b other high = go (text_cmp a b) refl
      where
        go : (o : Ordering) → text_cmp a b ≡ o → text_cmp a b ≡ Less
        go Less is = is
        go Equal is = absurd (both_ways _ other (ap is_eq is))
        go Greater is = absurd (both_ways _ high (ap is_lt (nat_list_cmp_total.antisymm b a) ∙ ap (λ o. is_lt (ordering_reverse o)) is))

pub text_flips : (x y : Text) → same_text x y ≡ same_text y x
text_flips x y = (eq_by_cmp_equiv nat_list_cmp_total).symm x y

-- ---- the rows of entries

-- a row has a text in its column, and shows the value of that
pub record Says {V : Type 0} (value_of : Text → Option V) (view : Text → V → Row) (at : ℕ) (shows : Row → Row) (r : Row) : Type 0 where
  pub value : V
  pub is : value_of (text_in at r) ≡ Some value
  pub named : column r at ≡ Words (text_in at r)
  pub shown : shows r ≡ view (text_in at r) value

-- each row says the value of one text, each of another one, and none is left out
pub record AreRowsOf {V : Type 0} (value_of : Text → Option V) (view : Text → V → Row) (at : ℕ) (shows : Row → Row) (rows : List Row) : Type 0 where
  pub apart : IsAscending (λ a b. text_in at a ≢ text_in at b) rows
  pub each : (r : Row) → Has rows r → Says value_of view at shows r
  pub all : (q : Text) (v : V) → value_of q ≡ Some v → (r : Row) × Has rows r × (text_in at r ≡ q)

-- texts of rows that differ
pub apart_texts : (at : ℕ) (rs : List Row) → IsAscending (λ a b. text_in at a ≢ text_in at b) rs → IsDistinct same_text (map (text_in at) rs)
unfolding IsDistinct
apart_texts at [] apart = tt
apart_texts at (r ∷ rs) apart = (
  all_from _ _ (λ id h. false_from_ne_true _ (λ same.
      let x = mapped_has (text_in at) rs id h in
      all_has _ rs x.0 apart.0 x.1 (text_is _ _ same ∙ x.2))),
  apart_texts at rs apart.1,
)

module _ (tree : ℕ) (tests project : List Term) (at : ℕ) (params : Row) where
  abbrev query : Query
  query = ordered_query tree tests project at

  abbrev pub shows : Row → Row
  shows r = eval_all project (params ∷ r ∷ [])

  abbrev output_of : Row → Output
  output_of r = (column r at ∷ [], shows r)

  abbrev keyed_of : Row → Keyed
  keyed_of r = (text_in at r, shows r)

  mapped : (rows : List Row) → map (output query) (map (λ r. params ∷ r ∷ []) rows) ≡ map output_of rows
  mapped [] = refl
  mapped (r ∷ rows) = ap (λ l. output_of r ∷ l) (mapped rows)

  by_text : (a b : Keyed) → output_cmp query (unkey a) (unkey b) ≡ text_cmp a.0 b.0
  by_text a b = rw (value_cmp-Text a.0 b.0) (ended (text_cmp a.0 b.0))

  -- in order and with no key twice, so each key is below the next
  strictly : (es : List Keyed) → IsSorted (output_cmp query) (map unkey es) → IsDistinct same_text (map (λ e. e.0) es) → T (is_sorted text_cmp es)
  strictly es sorted distinct = rising es (rises names order distinct)
    where
      names : List Text
      names = map (λ e. e.0) es

      order : (k : ℕ) → k + 1 < length names → is_lt (text_cmp (get_or names (k + 1) []) (get_or names k [])) ≡ false
      order k low =
          let long = length-map es (λ (e : Keyed). e.0) in
          let d : Keyed = ([], []) in
          let before : get_or (map unkey es) k (unkey d) ≡ unkey (get_or es k d) = get_or-map unkey es k d (unkey d) (omega arith) in
          let after : get_or (map unkey es) (k + 1) (unkey d) ≡ unkey (get_or es (k + 1) d) = get_or-map unkey es (k + 1) d (unkey d) (omega arith) in
          let one : get_or names k [] ≡ (get_or es k d).0 = get_or-map (λ (e : Keyed). e.0) es k d [] (omega arith) in
          let two : get_or names (k + 1) [] ≡ (get_or es (k + 1) d).0 = get_or-map (λ (e : Keyed). e.0) es (k + 1) d [] (omega arith) in
          let wide = length-map es unkey in
          ap₂ (λ x y. is_lt (text_cmp x y)) two one ∙ ap is_lt (sym (by_text (get_or es (k + 1) d) (get_or es k d)))
          ∙ ap₂ (λ x y. is_lt (output_cmp query x y)) (sym after) (sym before) ∙ sorted k (unkey d) (omega arith) (omega arith)

  distinct : (rs : List Row) → IsAscending (λ a b. text_in at a ≢ text_in at b) rs → IsDistinct same_text (map (λ (e : Keyed). e.0) (map keyed_of rs))
  distinct rs apart = subst (IsDistinct same_text) (sym (names_of rs)) (apart_texts at rs apart)
    where
      names_of : (rs : List Row) → map (λ (e : Keyed). e.0) (map keyed_of rs) ≡ map (text_in at) rs
      names_of [] = refl
      names_of (r ∷ rs) = ap (λ l. text_in at r ∷ l) (names_of rs)

  module _ {V : Type 0} (value_of : Text → Option V) (view : Text → V → Row) (db : Trees) (low : nat_le (2 ^ 31) tree ≡ false)
      (of : AreRowsOf value_of view at shows (filter (keeps tests params) (db tree))) (shown : List Row)
      (answer : IsAnswerAs Null query (overlay db []) params shown) where
    rows : List Row
    rows = filter (keeps tests params) (db tree)

    qs : List Keyed
    qs = map keyed_of rows

    es : List Keyed
    es = map key answer.ordered

    outputs_are : (rs : List Row) → ((r : Row) → Has rs r → Says value_of view at shows r) → map output_of rs ≡ map unkey (map keyed_of rs)
    outputs_are [] each = refl
    outputs_are (r ∷ rs) each = ap₂ (λ (x : Output) l. x ∷ l) (λ i. ((each r (inl refl)).named i ∷ [], shows r)) (outputs_are rs (λ x h. each x (inr h)))

    same : IsPermutation (map unkey qs) answer.ordered
    unfolding qs rows
    same =
        let found = answer.grouped ∙ staged db tree tests params low ∙ picked (keeps tests params) (λ r. params ∷ r ∷ []) (db tree) in
        subst (λ k. IsPermutation k answer.ordered) (answer.distinct ∙ ap (map (output query)) found ∙ mapped (filter (keeps tests params) (db tree))
        ∙ outputs_are (filter (keeps tests params) (db tree)) of.each) answer.same

    keyed_move : IsPermutation qs es
    unfolding es
    keyed_move = subst (λ l. IsPermutation l (map key answer.ordered)) (keyed_again qs) (IsPermutation-map key (map unkey qs) answer.ordered same)

    ordered_is : map unkey es ≡ answer.ordered
    unfolding es
    ordered_is = unkeyed_again answer.ordered (λ o h. let e = mapped_has unkey qs o (moved answer.ordered (map unkey qs) o (IsPermutation-sym _ _ same) h) in
        ap (λ x. unkey (key x)) e.2 ∙ sym e.2)

    in_order : T (is_sorted text_cmp es)
    unfolding qs rows
    in_order = strictly es (subst (IsSorted (output_cmp query)) (sym ordered_is) answer.sorted)
        (IsDistinct-IsPermutation same_text text_flips _ _ (IsPermutation-map (λ (e : Keyed). e.0) qs es keyed_move)
        (distinct (filter (keeps tests params) (db tree)) of.apart))

    -- what is listed is what a row says
    said : (e : Keyed) → Has es e → (v : V) × (value_of e.0 ≡ Some v) × (e.1 ≡ view e.0 v)
    unfolding qs rows
    said e h =
        let r = mapped_has keyed_of rows e (moved es qs e (IsPermutation-sym _ _ keyed_move) h) in
        let it = of.each r.0 r.1 in
        let id : e.0 ≡ text_in at r.0 = ap (λ (x : Keyed). x.0) r.2 in
        (it.value, ap value_of id ∙ it.is, ap (λ (x : Keyed). x.1) r.2 ∙ it.shown ∙ ap (λ k. view k it.value) (sym id))

    -- what has a value is listed
    is_listed : (q : Text) (v : V) → value_of q ≡ Some v → (w : Row) × Has es (q, w)
    unfolding qs rows
    is_listed q v is =
        let r = of.all q v is in
        (shows r.0, subst (λ k. Has es (k, shows r.0)) r.2 (moved qs es (keyed_of r.0) keyed_move (has_mapped keyed_of rows r.0 r.1)))

    listed : AreListed value_of view es
    listed = record { in_order = in_order; said = said; all = is_listed }

    -- the query shows the entries whose values these are, in order of their texts
    pub shows_entries : (kept : List (Text × V)) → T (is_sorted text_cmp kept) → ((q : Text) → value_of q ≡ find text_cmp q kept) → shown
        ≡ map (λ e. view e.0 e.1) kept
    shows_entries kept up are =
        let all = listed_is value_of view es listed kept up are in
        answer.shown ∙ ap (map (λ (o : Output). o.1)) (sym ordered_is) ∙ ap (λ l. map (λ (o : Output). o.1) (map unkey l)) all ∙ twice (viewed view kept)
        ∙ rows_viewed view kept
      where
        twice : (xs : List Keyed) → map (λ (o : Output). o.1) (map unkey xs) ≡ map (λ (e : Keyed). e.1) xs
        twice [] = refl
        twice (x ∷ xs) = ap (λ l. x.1 ∷ l) (twice xs)

-- ---- entries that pass a test

module _ {V : Type 0} (test : V → Bool) where
  -- the value, if it passes
  abbrev pub if_passes : Option V → Option V
  if_passes None = None
  if_passes (Some v) = cond (test v) (Some v) None

  pub passed : (o : Option V) (v : V) → if_passes o ≡ Some v → (o ≡ Some v) × (test v ≡ true)
  passed None v e = absurd (cc)
  passed (Some w) v e = elim (cases_Bool (test w)) [
    | inl here ↦ (let is : Some w ≡ Some v = sym (rw here refl) ∙ e in (is, (let same : w ≡ v = cc in ap test (sym same) ∙ here)))
    | inr other ↦ absurd (let none : None ≡ Some v = sym (rw other refl) ∙ e in cc)
  ]

  abbrev pub passing : List (Text × V) → List (Text × V)
  passing es = filter (λ e. test e.1) es

  below_passing : (k : Text) (es : List (Text × V)) → T (below_all text_cmp k es) → T (below_all text_cmp k (passing es))
  below_passing k [] h = tt
  below_passing k (e ∷ es) h = elim (test e.1) as (λ b. T (below_all text_cmp k (cond b (e ∷ passing es) (passing es)))) [
    | true ↦ both _ _ (first _ _ h) (below_passing k es (second _ _ h))
    | false ↦ below_passing k es (second _ _ h)
  ]

  pub sorted_passing : (es : List (Text × V)) → T (is_sorted text_cmp es) → T (is_sorted text_cmp (passing es))
  sorted_passing [] h = tt
  sorted_passing (e ∷ es) h = elim (test e.1) as (λ b. T (is_sorted text_cmp (cond b (e ∷ passing es) (passing es)))) [
    | true ↦ both _ _ (below_passing e.0 es (first _ _ h)) (sorted_passing es (second _ _ h))
    | false ↦ sorted_passing es (second _ _ h)
  ]

  pub find_passing : (es : List (Text × V)) → T (is_sorted text_cmp es) → (q : Text) → if_passes (find text_cmp q es) ≡ find text_cmp q (passing es)
  find_passing [] h q = refl
  find_passing (e ∷ es) h q = elim (cases_Bool (same_text q e.0)) [
    | inl here ↦ sym (here_is here ∙ ap if_passes (sym (now here)))
    | inr other ↦ sym (later other ∙ sym (find_passing es (second _ _ h) q) ∙ ap if_passes (sym (past other)))
  ]
    where
      now : same_text q e.0 ≡ true → find text_cmp q (e ∷ es) ≡ Some e.1
      now here = rw here refl

      past : same_text q e.0 ≡ false → find text_cmp q (e ∷ es) ≡ find text_cmp q es
      past other = rw other refl

      gone : same_text q e.0 ≡ true → find text_cmp q (passing es) ≡ None
      gone here = subst (λ k. find text_cmp k (passing es) ≡ None) (sym (text_is q e.0 here)) (none_below e.0 (passing es) (below_passing e.0 es (first _ _ h)))

      here_is : same_text q e.0 ≡ true → find text_cmp q (cond (test e.1) (e ∷ passing es) (passing es)) ≡ if_passes (Some e.1)
      here_is here = elim (test e.1) as (λ b. find text_cmp q (cond b (e ∷ passing es) (passing es)) ≡ cond b (Some e.1) None) [
        | true ↦ rw here refl
        | false ↦ gone here
      ]

      later : same_text q e.0 ≡ false → find text_cmp q (cond (test e.1) (e ∷ passing es) (passing es)) ≡ find text_cmp q (passing es)
      later other = elim (test e.1) as (λ b. find text_cmp q (cond b (e ∷ passing es) (passing es)) ≡ find text_cmp q (passing es)) [
        | true ↦ rw other refl
        | false ↦ refl
      ]
