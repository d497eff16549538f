-- The rows of the features of a state in format 1, in whatever order they are shown.
use Rattle.std.proofs.Common.{◌≡◌, ◌≢◌, inl, inr, ℕ, ◌≤◌, List, [], ◌∷◌, map, Bool, true, false, ◌&&◌, cond, drop, Option, Some, None, option_map, nat_le, ◌^◌}
use Rattle.std.proofs.Common.{refl, sym, ap, subst, ◌∙◌, arith}
use Rattle.std.specs.List.{AllByRecursion, list_all, sum_by}
use Rattle.std.specs.List.Sorted.{IsPermutation}
use Rattle.std.proofs.lemmas.List.Sorted.{IsPermutation-map, sum_by-IsPermutation, Contains-permutation, All-permutation}
use Rattle.std.proofs.lemmas.Bool.{cases_Bool, and_parts, and_from, false_from_ne_true}
use Rattle.std.proofs.lemmas.List.Sums.{sum_by-cons}
use Rattle.std.proofs.lemmas.List.Elements.{All-from_recursion, recursion_from_All}
use Rattle.sqlite.specs.declared.types.Value.TheVariants.{Null, Text as Words}
use Rattle.sqlite.specs.Order.{Row, column}
use Rattle.sqlite.specs.Term.{holds}
use Rattle.sqlite_sql.specs.Term.{eval_all}
use Rattle.sqlite.specs.Query.{IsAnswerAs, Output, output}
use Rattle.sqlite.specs.Program.{overlay}
use Rattle.sqlite_trees.specs.Tree.{Trees, IsAscending}
use Rattle.sqlite_rules.specs.Lists.{Has}
use Rattle.sqlite_rules.proofs.ListLemmas.{all_has, has_contained, contains_had}
use Rattle.streetmap_geojson.specs.FeatureValue.{FeatureValue}
use Rattle.streetmap_ledger.specs.State.{State}
use Rattle.streetmap_rows.specs.Holds.{HoldsByKey, KeyPair, pair_key, has_pair, same_text}
use Rattle.streetmap_rows.specs.Queries.{over}
use Rattle.streetmap_rows.proofs.OneRowChosen.{staged, picked}
use Rattle.streetmap_rows.proofs.HeldKeys.{cells_of, there}
use Rattle.streetmap_rows.proofs.TextKeys.{pair_is, pair_self, column_later, text_is, text_self}
use Rattle.streetmap_rows.specs.Rows.{feature_at}
use Rattle.streetmap_tables.specs.Old.{old_cells}
use Rattle.streetmap_tables.specs.Part.{pair_in, IsRowOf, AreRowsOf}
use Rattle.streetmap_tables.proofs.SelectOld.{cells}
use Rattle.streetmap_tables.proofs.FormatAndSerials.{filter_all}

map_map : {A B C : Type 0} (f : A → B) (g : B → C) (xs : List A) → map g (map f xs) ≡ map (λ x. g (f x)) xs
map_map f g [] = refl
map_map f g (x ∷ xs) = ap (λ l. g (f x) ∷ l) (map_map f g xs)

-- what is shown of a row
abbrev shown : Row → Row
shown r = eval_all cells ([] ∷ r ∷ [])

-- every row is shown, in some order
all_shown : (db : Trees) (tree : ℕ) (rows : List Row) → nat_le (2 ^ 31) tree ≡ false → IsAnswerAs Null (over tree [] cells) (overlay db []) [] rows →
    IsPermutation (map shown (db tree)) rows
all_shown db tree rows low a =
    let stage = a.grouped ∙ staged db tree [] [] low ∙ picked (λ r. list_all (holds ([] ∷ r ∷ [])) []) (λ r. [] ∷ r ∷ []) (db tree)
    ∙ ap (map (λ r. [] ∷ r ∷ [])) (filter_all (λ r. list_all (holds ([] ∷ r ∷ [])) []) (db tree) (λ r. refl)) in
    let kept = a.distinct ∙ ap (map (output (over tree [] cells))) stage ∙ map_map (λ r. [] ∷ r ∷ []) (output (over tree [] cells)) (db tree) in
    let mapped = IsPermutation-map (λ (o : Output). o.1) a.kept a.ordered a.same in
    let from : map (λ (o : Output). o.1) a.kept ≡ map shown (db tree) = ap (map (λ (o : Output). o.1)) kept
    ∙ map_map (λ r. output (over tree [] cells) ([] ∷ r ∷ [])) (λ (o : Output). o.1) (db tree) in
    subst (λ ys. IsPermutation (map shown (db tree)) ys) (sym a.shown) (subst (λ xs. IsPermutation xs (map (λ (o : Output). o.1) a.ordered)) from mapped)

has_mapped : {A B : Type 0} (f : A → B) (xs : List A) (x : A) → Has xs x → Has (map f xs) (f x)
has_mapped f (y ∷ xs) x (inl same) = inl (ap f same)
has_mapped f (y ∷ xs) x (inr more) = inr (has_mapped f xs x more)
has_mapped f [] x h = absurd h

all_mapped : {A B : Type 0} (P : B → Type 0) (f : A → B) (xs : List A) → ((x : A) → Has xs x → P (f x)) → AllByRecursion P (map f xs)
all_mapped P f [] all = tt
all_mapped P f (x ∷ xs) all = (all x (inl refl), all_mapped P f xs (λ y h. all y (inr h)))

-- ---- rows of other keys, in whatever order

abbrev pub is_pair : KeyPair → KeyPair → Bool
is_pair p q = same_text p.0 q.0 && same_text p.1 q.1

pub pair_same : (p q : KeyPair) → is_pair p q ≡ true → p ≡ q
pair_same p q h = let parts = and_parts (same_text p.0 q.0) (same_text p.1 q.1) h in λ i. (text_is p.0 q.0 parts.0 i, text_is p.1 q.1 parts.1 i)

pub pair_own : (p : KeyPair) → is_pair p p ≡ true
pair_own p = and_from _ _ (text_self p.0) (text_self p.1)

abbrev times : KeyPair → Row → ℕ
times p r = cond (is_pair p (pair_in r)) 1 0

abbrev Apart : List Row → Type 0
Apart = IsAscending (λ a b. pair_in a ≢ pair_in b)

never : (p : KeyPair) (rows : List Row) → AllByRecursion (λ x. p ≢ pair_in x) rows → sum_by (times p) rows ≡ 0
never p [] all = refl
never p (r ∷ rows) all =
    let here : times p r ≡ 0 = rw (false_from_ne_true (is_pair p (pair_in r)) (λ same. all.0 (pair_same p (pair_in r) same))) refl in
    let more = never p rows all.1 in
    let both = sum_by-cons (times p) r rows in
    omega (arith, here, more, both)

once : (rows : List Row) → Apart rows → (p : KeyPair) → sum_by (times p) rows ≤ 1
once [] apart p = omega arith
once (r ∷ rows) apart p =
    let both = sum_by-cons (times p) r rows in
    elim (cases_Bool (is_pair p (pair_in r))) [
      | inl here ↦
          (let one : times p r ≡ 1 = rw here refl in
          let more = never p rows (subst (λ q. AllByRecursion (λ x. q ≢ pair_in x) rows) (sym (pair_same p (pair_in r) here)) apart.0) in
          omega (arith, one, more, both))
      | inr other ↦
          (let none : times p r ≡ 0 = rw other refl in
          let more = once rows apart.1 p in omega (arith, none, more, both))
    ]

others : (p : KeyPair) (rows : List Row) → sum_by (times p) rows ≡ 0 → AllByRecursion (λ x. p ≢ pair_in x) rows
others p [] none = tt
others p (r ∷ rows) none =
    let both = sum_by-cons (times p) r rows in (
      λ same.
          let here : is_pair p (pair_in r) ≡ true = ap (is_pair p) (sym same) ∙ pair_own p in
          let one : times p r ≡ 1 = rw here refl in
          omega (arith, one, both, none),
      others p rows (omega (arith, both, none)),
    )

ascends : (rows : List Row) → ((p : KeyPair) → sum_by (times p) rows ≤ 1) → Apart rows
ascends [] few = tt
ascends (r ∷ rows) few =
    let own : times (pair_in r) r ≡ 1 = rw (pair_own (pair_in r)) refl in
    let both = sum_by-cons (times (pair_in r)) r rows in
    let most = few (pair_in r) in (
      others (pair_in r) rows (omega (arith, own, both, most)),
      ascends rows (λ p. let all = sum_by-cons (times p) r rows in let at = few p in
          omega (arith, all, at)),
    )

apart_shuffled : (xs ys : List Row) → IsPermutation xs ys → Apart xs → Apart ys
apart_shuffled xs ys s apart = ascends ys (λ p. let same = sum_by-IsPermutation (times p) xs ys s in let most = once xs apart p in omega (arith, same, most))

-- ---- the rows of a state

module _ (s : State) (db : Trees) (tree : ℕ) (has : HoldsByKey pair_key has_pair (λ p. option_map (old_cells p) (feature_at s p)) (db tree)) where
  at_row : (r : Row) (o : Option FeatureValue) → feature_at s (pair_key r) ≡ o → option_map (old_cells (pair_key r)) o ≡ Some (drop 1 r) → IsRowOf s (shown r)
  at_row r None is h = absurd (cc)
  at_row r (Some f) is h =
      let cells_are : old_cells (pair_key r) f ≡ drop 1 r = cc in
      (pair_key r, f, is, shows r f cells_are)
    where
      shows : (r : Row) (f : FeatureValue) → old_cells (pair_key r) f ≡ drop 1 r → shown r ≡ old_cells (pair_key r) f
      shows r f same =
          let one = column_later r 0 ∙ ap (λ x. column x 0) (sym same) in
          let two = column_later r 1 ∙ ap (λ x. column x 1) (sym same) in
          let three = column_later r 2 ∙ ap (λ x. column x 2) (sym same) in
          λ i. one i ∷ two i ∷ three i ∷ []

  row_is : (r : Row) → Has (db tree) r → IsRowOf s (shown r)
  row_is r h = at_row r (feature_at s (pair_key r)) refl (cells_of pair_key has_pair pair_is pair_self _ (db tree) has r h)

  apart_mapped : (rows : List Row) → IsAscending (λ a b. pair_key a ≢ pair_key b) rows → Apart (map shown rows)
  apart_mapped [] up = tt
  apart_mapped (r ∷ rows) up = (
    all_mapped (λ x. pair_in (shown r) ≢ pair_in x) shown rows (λ x h. all_has (λ y. pair_key r ≢ pair_key y) rows x up.0 h),
    apart_mapped rows up.1,
  )

  has_row : (p : KeyPair) (f : FeatureValue) → feature_at s p ≡ Some f → Has (map shown (db tree)) (old_cells p f)
  has_row p f is =
      let it = there pair_key has_pair pair_is pair_self _ (db tree) has p (old_cells p f) (ap (option_map (old_cells p)) is) in
      let one : column it.0 1 ≡ Words p.0 = column_later it.0 0 ∙ ap (λ x. column x 0) it.4 in
      let two : column it.0 2 ≡ Words p.1 = column_later it.0 1 ∙ ap (λ x. column x 1) it.4 in
      let three = column_later it.0 2 ∙ ap (λ x. column x 2) it.4 in
      let same : shown it.0 ≡ old_cells p f = λ i. one i ∷ two i ∷ three i ∷ [] in
      subst (Has (map shown (db tree))) same (has_mapped shown (db tree) it.0 it.1)

  pub are_rows : (rows : List Row) → nat_le (2 ^ 31) tree ≡ false → IsAnswerAs Null (over tree [] cells) (overlay db []) [] rows → AreRowsOf s rows
  are_rows rows low a =
      let same = all_shown db tree rows low a in
      record {
        each = recursion_from_All (IsRowOf s) rows (All-permutation (IsRowOf s) (map shown (db tree)) rows same
            (All-from_recursion (IsRowOf s) (map shown (db tree)) (all_mapped (IsRowOf s) shown (db tree) row_is)));
        apart = apart_shuffled (map shown (db tree)) rows same (apart_mapped (db tree) has.apart);
        all = λ p f is. has_contained rows (old_cells p f) (Contains-permutation (map shown (db tree)) rows (old_cells p f) same
            (contains_had (map shown (db tree)) (old_cells p f) (has_row p f is)));
      }
