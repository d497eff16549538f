-- From statements to pages.
use Rattle.std.proofs.Common.{Ok, Err, MatchResult, MatchOption, ℕ, ◌+◌, arith, length-append, ◌++◌, ◌≡◌, inl, inr, List, [], ◌∷◌, map, length, true, false}
use Rattle.std.proofs.Common.{cond, Option, Some, None, option_map, Result, refl, sym, ap, subst, ◌∙◌}
use Rattle.std.specs.FinMap.{get}
use Rattle.std.specs.List.{AllByRecursion}
use Rattle.std.specs.Option.{option_copied, option_to_list}
use Rattle.std.proofs.lemmas.Bool.{cases_Bool, false_from_ne_true}
use Rattle.sqlite.specs.Order.{Row}
use Rattle.sqlite.specs.State.{State as Seen, IsUnchanged}
use Rattle.streetmap_grid.specs.Values.{BoxValue}
use Rattle.streetmap_moment.specs.IntervalValue.{IntervalValue}
use Rattle.streetmap_geojson.specs.FeatureValue.{FeatureValue}
use Rattle.streetmap_query.specs.Views.{query_value}
use Rattle.streetmap_query.specs.declared.queries.Query.{Query}
use Rattle.streetmap_batch.specs.Text.{Text}
use Rattle.streetmap_ledger.specs.State.{State, Collection}
use Rattle.streetmap_ledger.specs.Pages.{selects, selected, is_candidate, candidates, page_of, page_over}
use Rattle.streetmap_ledger.specs.Folds.{IsFoldOf}
use Rattle.streetmap_ledger.proofs.Examining.{selected_are_candidates, same_page}
use Rattle.streetmap_rows.specs.KeptStates.{Keeps}
use Rattle.streetmap_rows.specs.declared.fault.ReadFault.{ReadFault}
use Rattle.streetmap_reading.specs.Candidates.{candidate_row, ShowsOf}
use Rattle.streetmap_rows.specs.Stored.{IsStored}
use Rattle.streetmap_reading.specs.declared.candidates.PageRows.{PageRows}
use Rattle.streetmap_rows.specs.TableReads.{Stopped}
use Rattle.streetmap_reading.specs.FoldEffects.{TakesAll}
use Rattle.streetmap_reading.specs.Held.{IsCandidate, HoldsPage}
use Rattle.streetmap_reading.specs.Choices.{chosen_of, TakesChosen}
use Rattle.streetmap_rows.specs.Views.{collection_view}
use Rattle.streetmap_reading.proofs.Folded.{folded}
use Rattle.streetmap_reading.proofs.PageRowsShown.{chosen_stored}
use Rattle.streetmap_reading.proofs.OneRowMore.{candidates_fine, page_begun}

-- the rows of the chosen features are taken
pub takes_by : (sql : List ℕ) (params : Row) (box : Option BoxValue) (interval : Option IntervalValue) (name : Text) (old new : Seen) (before after : PageRows)
    (r : Result (Unit {0}) ReadFault)
    → TakesAll HoldsPage (λ start. AllByRecursion (IsCandidate (option_copied start.property))) sql params before
    after old new r
    → ((s : State) (c : Collection) → Keeps s old.now → get s.collections name ≡ Some c
    → ShowsOf sql params old.now (map candidate_row (chosen_of box interval c)))
    → TakesChosen (chosen_of box interval) name before after old new r
takes_by sql params box interval name old new before after r all shows q s c limit keeps collected same held =
    let fs = chosen_of box interval c in
    let stored : AllByRecursion (IsStored (option_copied before.property)) fs = subst (λ p. AllByRecursion (IsStored p) fs) same
    (chosen_stored s old.now keeps name c collected box interval) in
    let took = folded HoldsPage (λ start. AllByRecursion (IsCandidate (option_copied start.property))) sql params old new
    before after (map candidate_row fs) (shows s c keeps collected) limit
    (candidates_fine (option_copied before.property) fs stored) r all (page_begun before) in
    result_map r (λ h. h.page q fs held refl stored) took
  where
    result_map : (r : Result (Unit {0}) ReadFault) → (HoldsPage before after (map candidate_row (chosen_of box interval c)) →
        IsFoldOf q after.fold (chosen_of box interval c))
        → MatchResult r (λ _. HoldsPage before after (map candidate_row (chosen_of box interval c)) × IsUnchanged old new) (Stopped old new)
        → MatchResult r (λ _. IsFoldOf q after.fold (chosen_of box interval c) × IsUnchanged old new) (Stopped old new)
    result_map (Ok u) f h = (f h.0, h.1)
    result_map (Err fault) f h = h

-- ---- no selected feature is left out

whole_of : (q : Query) (property : Option Text) (fs : List FeatureValue) → AllByRecursion (IsStored property) fs →
    selected (query_value q) (candidates (query_value q) fs) ≡ selected (query_value q) fs
whole_of q property [] h = refl
whole_of q property (f ∷ fs) h = elim (cases_Bool (is_candidate (query_value q) f)) [
  | inl on ↦ rw on (elim (selects (query_value q) f) as (λ b. cond b (f ∷ selected (query_value q) (candidates (query_value q) fs))
      (selected (query_value q) (candidates (query_value q) fs)) ≡ cond b (f ∷ selected (query_value q) fs) (selected (query_value q) fs)) [
        | true ↦ ap (λ l. f ∷ l) (whole_of q property fs h.1)
        | false ↦ whole_of q property fs h.1
      ])
  | inr off ↦
      let out : selects (query_value q) f ≡ false = false_from_ne_true _ (λ s. let clash = sym off ∙ selected_are_candidates q f h.0.kept s in absurd (cc)) in
      rw (off, out) (whole_of q property fs h.1)
]

pub page_is : (q : Query) (property : Option Text) (fs : List FeatureValue) → AllByRecursion (IsStored property) fs →
    page_of (query_value q) (length (candidates (query_value q) fs)) (candidates (query_value q) fs) ≡ page_over (query_value q) fs
page_is q property fs h = same_page (query_value q) (length (candidates (query_value q) fs)) (candidates (query_value q) fs) fs (whole_of q property fs h)

-- ---- reads, one after the other

pub there_is : (o : Option Collection) (row : Row) → Some row ≡ option_map collection_view o → (d : Collection) × (o ≡ Some d) × (row ≡ collection_view d)
there_is None row e = absurd (cc)
there_is (Some d) row e = (d, refl, let same : row ≡ collection_view d = cc in same)

-- the last of at most one row
pub popped : (o r : Option Row) (rest rows : List Row) (n m : ℕ) → rows ≡ option_to_list o → rows ≡ rest ++ option_to_list r → length rows ≡ n →
    MatchOption r ((n ≡ 0) × (m ≡ 0)) (λ _. m + 1 ≡ n) → r ≡ o
popped None None rest rows n m is items ok cases = refl
popped None (Some r) rest rows n m is items ok cases = absurd (omega (arith, ap length is, ap length items, length-append rest (r ∷ [])))
popped (Some x) None rest rows n m is items ok cases = absurd (omega (arith, ap length is, ok, cases.0))
popped (Some x) (Some r) [] rows n m is items ok cases = let e : x ∷ [] ≡ r ∷ [] = sym is ∙ items in let f : x ≡ r = cc in ap Some (sym f)
popped (Some x) (Some r) (y ∷ rest) rows n m is items ok cases = absurd (omega (arith, ap length is, ap length items, length-append rest (r ∷ [])))
