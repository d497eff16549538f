-- Insertions that one statement makes.
use Rattle.std.specs.Prelude.{◌≡◌, ℕ, Bool, List, Option, None, Some, Ok, Result, MatchResult}
use Rattle.std.specs.Prelude.{MatchBool, IsTrue, IfSome, OnOk, option_map, string_bytes}
use Rattle.std.specs.List.{AllZip}
use Rattle.std.specs.FinMap.{get}
use Rattle.sqlite.specs.State.{State as Seen, IsUnchanged, KeepsCommit}
use Rattle.sqlite.specs.declared.error.Error.{Error}
use Rattle.streetmap_geojson.specs.FeatureValue.{FeatureValue}
use Rattle.streetmap_batch.specs.Text.{Text}
use Rattle.streetmap_batch.specs.BatchValue as edit
use Rattle.streetmap_batch.specs.BatchValue.{EditValue}
use Rattle.streetmap_ledger.specs.State.{State, Collection, timed}
use Rattle.streetmap_ledger.specs.Batches.{edited}
use Rattle.streetmap_ledger.specs.declared.reply.Refusal.{Refusal}
use Rattle.streetmap_rows.specs.Failures.{IsOfStore}
use Rattle.streetmap_rows.specs.Representations.{StandsFor}
use Rattle.streetmap_rows.specs.FeatureRows.{IsRowOf}
use Rattle.streetmap_rows.specs.declared.feature_rows.FeatureRow.{FeatureRow}
use Rattle.streetmap_tables.specs.EditEffects.{AnsweredAll, KeepsRest}
use Rattle.streetmap_tables.specs.declared.insertions.KnownCollection.{KnownCollection}

-- the row is that of the feature with the time that the property gives
pub record IsRowUnder (property : Option Text) (f : FeatureValue) (row : FeatureRow) : Type 0 where
  pub kept : FeatureValue
  pub is : timed property f ≡ Ok kept
  pub named : kept.id ≡ f.id
  pub row_is : IsRowOf (f.id, kept) row

-- the edit inserts a feature into the collection, and the row is that feature's
pub record IsInsertion (name : Text) (property : Option Text) (e : EditValue)
    (row : FeatureRow) : Type 0 where
  pub feature : FeatureValue
  pub is : e ≡ edit.insert name feature
  pub under : IsRowUnder property feature row

abbrev pub AreInsertions : Text → Option Text → List EditValue → List FeatureRow → Type 0
AreInsertions name property = AllZip (IsInsertion name property)

-- all edits are made, or the state stays and they remain to be made in turn
abbrev pub MadeOrLeft : State → List EditValue → Seen → Bool → Type 0
MadeOrLeft s es new made = MatchBool made ((t : State) × (edited 1 s es ≡ Ok t)
    × StandsFor t new.now) (StandsFor s new.now)

-- ---- what is known of a collection

-- the collection exists, with this time property
abbrev pub HasCollection : Text → Option Text → State → Type 0
HasCollection name property s =
    (c : Collection) × (get s.collections name ≡ Some c) × (c.time ≡ property)

-- what is known holds in the state
abbrev pub IsKnown : Option KnownCollection → State → Type 0
IsKnown known s = IfSome known (λ it.
    HasCollection (string_bytes it.id) (option_map string_bytes it.property) s)

-- what is known afterwards holds in the state before, if what was known does; edits keep it true
abbrev pub KeepsKnown : {A : Type 0} → Option KnownCollection → Option KnownCollection → Seen
    → Result A Error → Type 0
KeepsKnown was known old r =
    old.step_limit ≡ None → IsTrue old.in_transaction → (s : State) → StandsFor s old.now
    → IsKnown was s → OnOk r (IsKnown known s)

-- the call means this, and what is known afterwards holds
pub record Knowing {A : Type 0} (Means : Seen → Seen → Result A Error → Type 0)
    (was known : Option KnownCollection) (old new : Seen) (result : Result A Error) : Type 0 where
  pub edits : Means old new result
  pub knows : KeepsKnown was known old result

-- what is found is the collection with this name, or none; the database stays
abbrev pub FindsCollection : Text → Seen → Seen → Result (Option KnownCollection) Error → Type 0
FindsCollection name old new r =
    old.step_limit ≡ None → (s : State) → StandsFor s old.now
    → MatchResult r (λ found. IfSome found (λ it. string_bytes it.id ≡ name) × IsKnown found s
    × IsUnchanged old new) (λ e. IsOfStore e × KeepsCommit old new)

-- what is known afterwards is the collection with this name, or none; the state stays
abbrev pub ComesToKnow : Text → Option KnownCollection → Option KnownCollection → Seen → Seen
    → Result (Unit {0}) Error → Type 0
ComesToKnow name was known old new r =
    old.step_limit ≡ None → IsTrue old.in_transaction → (s : State) → StandsFor s old.now
    → IsKnown was s
    → MatchResult r (λ _. IfSome known (λ it. string_bytes it.id ≡ name) × IsKnown known s
    × StandsFor s new.now × IsTrue new.in_transaction × KeepsRest old new) (λ e. IsOfStore e
    × KeepsCommit old new)

-- ---- edits inside a transaction, if this holds before

-- all or none of them
abbrev pub EditsAllOrNone : (State → Type 0) → List EditValue → Seen → Seen → Result Bool Error
    → Type 0
EditsAllOrNone Before es old new r =
    old.step_limit ≡ None → IsTrue old.in_transaction → (s : State) → StandsFor s old.now
    → Before s → MatchResult r (λ made. MadeOrLeft s es new made × IsTrue new.in_transaction
    × KeepsRest old new) (λ e. IsOfStore e × KeepsCommit old new)

-- up to the first that is refused
abbrev pub EditsWhere : (State → Type 0) → List EditValue → Seen → Seen
    → Result (Option (ℕ × Refusal)) Error → Type 0
EditsWhere Before es old new r =
    old.step_limit ≡ None → IsTrue old.in_transaction → (s : State) → StandsFor s old.now
    → Before s → MatchResult r (λ o. AnsweredAll s es new o × KeepsRest old new) (λ e. IsOfStore e
    × KeepsCommit old new)
