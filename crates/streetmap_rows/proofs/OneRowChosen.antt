-- What a query over one table answers, if its test picks one row at most.
use Rattle.std.proofs.Common.{nat_le, ◌^◌, ◌≡◌, ℕ, List, [], ◌∷◌, ◌++◌, length, map, filter, flat_map, Bool, true, false, not, if◌then◌else◌, drop, Option}
use Rattle.std.proofs.Common.{Some, None, option_map, is_some, nat_eq, refl, ap, subst, ◌∙◌, arith}
use Rattle.std.specs.List.{list_all}
use Rattle.std.specs.Option.{option_to_list}
use Rattle.std.specs.List.Sorted.{IsPermutation}
use Rattle.std.proofs.lemmas.List.Sorted.{length_permutation}
use Rattle.sqlite.specs.declared.types.Value.TheVariants.{Null}
use Rattle.sqlite.specs.Order.{Row}
use Rattle.sqlite.specs.Term.{Term, holds}
use Rattle.sqlite_sql.specs.Term.{eval_all}
use Rattle.sqlite.specs.Query.{IsAnswerAs, Output, output, inner, end}
use Rattle.sqlite_sql.specs.Query.{matches_as}
use Rattle.sqlite.specs.Program.{overlay}
use Rattle.sqlite.proofs.Callers.{one_permutation}
use Rattle.sqlite_trees.specs.Tree.{Trees}
use Rattle.sqlite_rules.specs.Lists.{Has}
use Rattle.streetmap_rows.specs.Queries.{over}
use Rattle.streetmap_rows.proofs.HeldKeys.{filter_same}

pub picked : {X : Type 0} (p : Row → Bool) (f : Row → X) (rows : List Row) → flat_map (λ r. if p r then f r ∷ [] else []) rows ≡ map f (filter p rows)
picked p f [] = refl
picked p f (r ∷ rows) = elim (p r) as (λ b. (if b then f r ∷ [] else []) ++ flat_map (λ x. if p x then f x ∷ [] else []) rows
    ≡ map f (if b then r ∷ filter p rows else filter p rows)) [
      | true ↦ ap (λ l. f r ∷ l) (picked p f rows)
      | false ↦ picked p f rows
    ]

pub few : {X : Type 0} (o : Option X) (ys : List X) → IsPermutation (option_to_list o) ys → ys ≡ option_to_list o
few (Some x) ys h = one_permutation x ys h
few None [] h = refl
few None (y ∷ ys) h = absurd (omega (arith, length_permutation [] (y ∷ ys) h))

-- the rows that pass
abbrev pub IsStaged : Trees → ℕ → List Term → Row → Type 0
IsStaged db tree tests params =
    matches_as Null (overlay db []) tests (inner tree end) (params ∷ []) ≡ flat_map (λ r. if list_all (holds (params ∷ r ∷ [])) tests then (params ∷ r ∷ [])
    ∷ [] else []) (db tree)

pub staged : (db : Trees) (tree : ℕ) (tests : List Term) (params : Row) → nat_le (2 ^ 31) tree ≡ false → IsStaged db tree tests params
staged db tree tests params low = rw low refl

module _ (db : Trees) (tree : ℕ) (tests project : List Term) (params : Row) (stage : IsStaged db tree tests params) (test : Row → Bool)
    (same : (r : Row) → Has (db tree) r → list_all (holds (params ∷ r ∷ [])) tests ≡ test r)
    (found : Option Row) (one : filter test (db tree) ≡ option_to_list found) where
  abbrev pub shown : Row → Row
  shown r = eval_all project (params ∷ r ∷ [])

  abbrev passes : Row → Bool
  passes r = list_all (holds (params ∷ r ∷ [])) tests

  pub chosen : (rows : List Row) → IsAnswerAs Null (over tree tests project) (overlay db []) params rows → rows ≡ option_to_list (option_map shown found)
  chosen rows a =
      let staged = a.grouped ∙ stage ∙ picked passes (λ r. params ∷ r ∷ []) (db tree) ∙ ap (map (λ r. params ∷ r ∷ []))
      (filter_same passes test (db tree) same ∙ one) in
      let kept = a.distinct ∙ ap (map (output (over tree tests project))) staged in
      let ordered = few (option_map (λ r. ([], shown r)) found) a.ordered (subst (λ k. IsPermutation k a.ordered) (kept ∙ shape found) a.same) in
      a.shown ∙ ap (map (λ (o : Output). o.1)) ordered ∙ shows found
    where
      shape : (o : Option Row) → map (output (over tree tests project)) (map (λ r. params ∷ r ∷ []) (option_to_list o))
          ≡ option_to_list (option_map (λ r. ([], shown r)) o)
      shape None = refl
      shape (Some r) = refl

      shows : (o : Option Row) → map (λ (x : Output). x.1) (option_to_list (option_map (λ r. ([], shown r)) o)) ≡ option_to_list (option_map shown o)
      shows None = refl
      shows (Some r) = refl

-- a row with the cells of the value at its key shows that value
pub shown_as : {X : Type 0} (cells view : X → Row) (shown : Row → Row) (o : Option Row) (x : Option X) → option_map (drop 1) o ≡ option_map cells x →
    ((r : Row) (v : X) → drop 1 r ≡ cells v → shown r ≡ view v) → option_map shown o ≡ option_map view x
shown_as cells view shown None None h each = refl
shown_as cells view shown None (Some v) h each = absurd (cc)
shown_as cells view shown (Some r) None h each = absurd (cc)
shown_as cells view shown (Some r) (Some v) h each = let same : drop 1 r ≡ cells v = cc in ap (λ x. Some x) (each r v same)

-- whether a row exists
pub none_empty : {A B : Type 0} (f : A → B) (o : Option A) (rows : List B) → rows ≡ option_to_list (option_map f o) → (b : Bool) → b ≡ nat_eq (length rows) 0 →
    not b ≡ is_some o
none_empty f None rows is b e = ap not e ∙ ap (λ l. not (nat_eq (length l) 0)) is
none_empty f (Some x) rows is b e = ap not e ∙ ap (λ l. not (nat_eq (length l) 0)) is
