-- Edits that one statement made, one after the other.
use Rattle.std.proofs.Common.{◌≡◌, ℕ, ◌+◌, suc, List, [], ◌∷◌, ◌++◌, map, slice_get, length, Some, None, Ok, Err, Option, Bool, true, false, Result}
use Rattle.std.proofs.Common.{MatchResult, OnOk, IsTrue, cond, refl, sym, ap, subst, ◌∙◌}
use Rattle.std.specs.Prelude.{MatchBool}
use Rattle.sqlite.specs.State.{State as Seen, IsUnchanged, KeepsCommit}
use Rattle.sqlite.specs.declared.error.Error.{Error}
use Rattle.streetmap_rows.specs.Failures.{IsOfStore}
use Rattle.streetmap_rows.specs.Representations.{StandsFor}
use Rattle.streetmap_rows.specs.Elsewhere.{IsSameElsewhere}
use Rattle.streetmap_ledger.specs.declared.reply.Refusal.{Refusal}
use Rattle.streetmap_tables.specs.EditEffects.{AnsweredAll, KeepsRest}
use Rattle.streetmap_tables.proofs.CallsInTransaction.{keeps_then, keeps_rest, rest_then, still_represented}
use Rattle.std.specs.FinMap.{get, insert, get-insert}
use Rattle.std.specs.Cmp.Lexicographic.{nat_list_cmp_total}
use Rattle.streetmap_batch.specs.Text.{Text}
use Rattle.streetmap_batch.specs.BatchValue as edit
use Rattle.streetmap_batch.specs.BatchValue.{EditValue}
use Rattle.streetmap_batch.specs.BatchView.{edit_value}
use Rattle.streetmap_batch.specs.declared.edit.Edit.{Edit}
use Rattle.streetmap_ledger.specs.State.{State, Collection, step, timed, with_feature, with_features}
use Rattle.streetmap_ledger.specs.Batches.{edited}
use Rattle.streetmap_rows.specs.Calls.{PutsFeature}
use Rattle.streetmap_rows.specs.FeatureRows.{Entry, PutsEach, AreRowsOf}
use Rattle.streetmap_rows.specs.declared.feature_rows.FeatureRow.{FeatureRow}
use Rattle.streetmap_rows.proofs.TextKeys.{text_self}
use Rattle.streetmap_tables.specs.Insertions.{IsInsertion, AreInsertions, MadeOrLeft}
use Rattle.streetmap_tables.proofs.EditEffects.{edited_more}

-- one more row
pub one_more : (name : Text) (property : Option Text) (es : List EditValue) (rows : List FeatureRow) (e : EditValue) (row : FeatureRow) →
    AreInsertions name property es rows → IsInsertion name property e row → AreInsertions name property (es ++ e ∷ []) (rows ++ row ∷ [])
one_more name property [] [] e row are is = (is, tt)
one_more name property (x ∷ es) (r ∷ rows) e row are is = (are.0, one_more name property es rows e row are.1 is)
one_more name property [] (r ∷ rows) e row are is = absurd are
one_more name property (x ∷ es) [] e row are is = absurd are

module _ (name : Text) (property : Option Text) where
  -- the features that the rows are of
  abbrev pub entries : (es : List EditValue) (rows : List FeatureRow) → AreInsertions name property es rows → List Entry
  entries [] [] are = []
  entries (e ∷ es) (row ∷ rows) are = (are.0.feature.id, are.0.under.kept) ∷ entries es rows are.1
  entries [] (row ∷ rows) are = absurd are
  entries (e ∷ es) [] are = absurd are

  pub rows_are : (es : List EditValue) (rows : List FeatureRow) (are : AreInsertions name property es rows) → AreRowsOf (entries es rows are) rows
  rows_are [] [] are = tt
  rows_are (e ∷ es) (row ∷ rows) are = (are.0.under.row_is, rows_are es rows are.1)
  rows_are [] (row ∷ rows) are = absurd are
  rows_are (e ∷ es) [] are = absurd are

  -- one insertion
  inserted_one : (s m : State) (c : Collection) (e : EditValue) (row : FeatureRow) (is : IsInsertion name property e row) → get s.collections name ≡ Some c →
      c.time ≡ property
      → PutsFeature (name, is.feature.id) is.under.kept s m → (step s e ≡ Ok m) × ((d : Collection) × (get m.collections name ≡ Some d) × (d.time ≡ property))
  inserted_one s m c e row is there time puts =
      let f = is.feature in
      let kept = is.under.kept in
      let same : puts.collection ≡ c = let h = sym puts.there ∙ there in cc in
      let absent : get c.features f.id ≡ None = subst (λ (x : Collection). get x.features f.id ≡ None) same puts.absent in
      let reported : timed c.time f ≡ Ok kept = ap (λ p. timed p f) time ∙ is.under.is in
      let put : m ≡ with_feature s name c kept = puts.is ∙ ap (λ (x : Collection). with_features s name x (insert x.features f.id kept)) same
      ∙ ap (λ id. with_features s name c (insert c.features id kept)) (sym is.under.named) in
      let stepped : step s (edit.insert name f) ≡ Ok (with_feature s name c kept) = rw (there, absent, reported) refl in
      let now = record c { features = insert c.features kept.id kept } in
      let has : get m.collections name ≡ Some now = ap (λ (x : State). get x.collections name) put
      ∙ (get-insert nat_list_cmp_total s.collections name now name ∙ ap (λ t. cond t (Some now) (get s.collections name)) (text_self name)) in
      (ap (step s) is.is ∙ stepped ∙ ap (λ x. Ok x) (sym put), (now, has, time))

  -- all of them
  pub inserted_all : (es : List EditValue) (rows : List FeatureRow) (are : AreInsertions name property es rows) (place : ℕ) (s t : State) (c : Collection) →
      get s.collections name ≡ Some c → c.time ≡ property
      → PutsEach name (entries es rows are) s t → edited place s es ≡ Ok t
  inserted_all [] [] are place s t c there time puts = ap (λ x. Ok x) (sym puts)
  inserted_all (e ∷ es) (row ∷ rows) are place s t c there time puts =
      let one = inserted_one s puts.0 c e row are.0 there time puts.1 in
      edited_more s puts.0 place e es one.0 ∙ inserted_all es rows are.1 (place + 1) puts.0 t one.1.0 one.1.1 one.1.2 puts.2
  inserted_all [] (row ∷ rows) are place s t c there time puts = absurd are
  inserted_all (e ∷ es) [] are place s t c there time puts = absurd are

  pub as_many : (es : List EditValue) (rows : List FeatureRow) → AreInsertions name property es rows → length es ≡ length rows
  as_many [] [] are = refl
  as_many (e ∷ es) (row ∷ rows) are = ap suc (as_many es rows are.1)
  as_many [] (row ∷ rows) are = absurd are
  as_many (e ∷ es) [] are = absurd are

  -- what the statement answered, as edits
  pub made_or_left : (es : List EditValue) (rows : List FeatureRow) (are : AreInsertions name property es rows) (old new : Seen) (s : State) (c : Collection) →
      get s.collections name ≡ Some c → c.time ≡ property → StandsFor s old.now
      → (r : Result Bool Error)
      → MatchResult r (λ put. MatchBool put ((t : State) × PutsEach name (entries es rows are) s t × StandsFor t new.now × IsSameElsewhere old.now new.now)
      (IsUnchanged old new)) IsOfStore
      → OnOk r (IsTrue new.in_transaction) → KeepsCommit old new
      → MatchResult r (λ made. MadeOrLeft s es new made × IsTrue new.in_transaction × KeepsRest old new) (λ e. IsOfStore e × KeepsCommit old new)
  made_or_left es rows are old new s c there time represented (Ok true) put within kept =
      ((put.0, inserted_all es rows are 1 s put.0 c there time put.1, put.2), within, (kept, put.3))
  made_or_left es rows are old new s c there time represented (Ok false) same within kept =
      (still_represented old new s same represented, within, keeps_rest old new same)
  made_or_left es rows are old new s c there time represented (Err e) of_store within kept = (of_store, kept)

-- the same after a read
pub made_on : (old mid new : Seen) (s : State) (es : List EditValue) (r : Result Bool Error) → KeepsRest old mid
    → MatchResult r (λ made. MadeOrLeft s es new made × IsTrue new.in_transaction × KeepsRest mid new) (λ e. IsOfStore e × KeepsCommit mid new)
    → MatchResult r (λ made. MadeOrLeft s es new made × IsTrue new.in_transaction × KeepsRest old new) (λ e. IsOfStore e × KeepsCommit old new)
made_on old mid new s es (Ok made) kept h = (h.0, h.1, rest_then old mid new kept h.2)
made_on old mid new s es (Err e) kept h = (h.0, keeps_then old mid new kept.0 h.1)

-- what edits answer after a call that left the state
pub answered_after : (old mid new : Seen) (s : State) (es : List EditValue) (r : Result (Option (ℕ × Refusal)) Error) → KeepsRest old mid
    → MatchResult r (λ o. AnsweredAll s es new o × KeepsRest mid new) (λ e. IsOfStore e × KeepsCommit mid new)
    → MatchResult r (λ o. AnsweredAll s es new o × KeepsRest old new) (λ e. IsOfStore e × KeepsCommit old new)
answered_after old mid new s es (Ok o) kept h = (h.0, rest_then old mid new kept h.1)
answered_after old mid new s es (Err e) kept h = (h.0, keeps_then old mid new kept.0 h.1)

-- the first of edits
pub first_is : (edits : List Edit) (e : Edit) → slice_get edits 0 ≡ Some e → (more : List EditValue) × (map edit_value edits ≡ edit_value e ∷ more)
first_is [] e h = absurd (cc)
first_is (x ∷ edits) e h = let same : x ≡ e = cc in (map edit_value edits, ap (λ y. edit_value y ∷ map edit_value edits) same)
