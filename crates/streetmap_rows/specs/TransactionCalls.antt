-- What a call inside a transaction does.
use Rattle.std.specs.Prelude.{◌≡◌, ℤ, List, Bool, Option, Result, Vec, IfErr, OnOk, IsTrue}
use Rattle.std.specs.declared.alloc.Global.{Global}
use Rattle.sqlite.specs.declared.error.Error.{Error}
use Rattle.sqlite.specs.declared.transaction.Transaction.{Transaction}
use Rattle.sqlite.specs.Held.{state}
use Rattle.sqlite.specs.Order.{Row}
use Rattle.sqlite.specs.State.{State as Seen, HasCleanDisk, KeepsCommit, Survives}
use Rattle.sqlite.specs.Store.{Ghosts}
use Rattle.streetmap_grid.specs.Values.{BoxValue}
use Rattle.streetmap_geojson.specs.FeatureValue.{FeatureValue}
use Rattle.streetmap_batch.specs.Text.{Text}
use Rattle.streetmap_ledger.specs.State.{State}
use Rattle.streetmap_rows.specs.Calls.{ReadsRows, Writes, PutsFeature, IsWritten, RanInsert}
use Rattle.streetmap_rows.specs.FeatureRows.{Entry, AreRowsOf, PutsAllOrNone}
use Rattle.streetmap_rows.specs.Holds.{KeyPair}
use Rattle.streetmap_rows.specs.Views as views
use Rattle.streetmap_rows.specs.declared.feature_rows.FeatureRow.{FeatureRow}

module _ {S A E : Type 0} (g : Ghosts S) (HasCause : Seen → Seen → E → Type 0)
    (Means : Seen → Seen → Result A E → Type 0) (old new : Transaction S)
    (result : Result A E) where
  -- The call has this meaning, and an error has its cause. No fault of the store is forgotten, and a
  -- crash leaves what it could leave before.
  pub record RunsInside : Type 0 where
    pub same_reference : new.conn.ghost_name ≡ old.conn.ghost_name
    pub does : HasCleanDisk (state g new.conn.now)
        → Means (state g old.conn.now) (state g new.conn.now) result
    pub reason : HasCleanDisk (state g new.conn.now)
        → IfErr result (HasCause (state g old.conn.now) (state g new.conn.now))
    pub survives : Survives (state g old.conn.now) (state g new.conn.now) (λ _. ⊥)

  -- It is such a call, which commits nothing, and after `Ok` the transaction goes on.
  pub record StaysInside : Type 0 where
    pub same_reference : new.conn.ghost_name ≡ old.conn.ghost_name
    pub does : HasCleanDisk (state g new.conn.now)
        → Means (state g old.conn.now) (state g new.conn.now) result
    pub inside : HasCleanDisk (state g new.conn.now) → IsTrue (state g old.conn.now).in_transaction
        → OnOk result (IsTrue (state g new.conn.now).in_transaction)
    pub kept : HasCleanDisk (state g new.conn.now) → IsTrue (state g old.conn.now).in_transaction
        → KeepsCommit (state g old.conn.now) (state g new.conn.now)
    pub reason : HasCleanDisk (state g new.conn.now)
        → IfErr result (HasCause (state g old.conn.now) (state g new.conn.now))
    pub survives : Survives (state g old.conn.now) (state g new.conn.now) (λ _. ⊥)

-- ---- what the statements mean

-- the row of a collection is read, and whatever the tables are nothing changes
pub record ReadsCollection (name : Text) (old new : Seen)
    (result : Result (Vec Row Global) Error) : Type 0 where
  pub rows : ReadsRows (views.collection_rows name) old new result
  pub same : OnOk result (new.now ≡ old.now)

-- a write, inside a transaction
abbrev pub WritesInside : (State → State → Type 0) → Seen → Seen → Result (Unit {0}) Error → Type 0
WritesInside Leads old new result = IsTrue old.in_transaction → Writes Leads old new result

-- a row is inserted into the features; if it is what is written of a feature, that is inserted
pub record InsertsFeature (p : KeyPair) (text : Text) (extent : Option BoxValue)
    (seconds : Option (ℤ × ℤ)) (old new : Seen) (result : Result (Unit {0}) Error) : Type 0 where
  pub writes : IsTrue old.in_transaction → (f : FeatureValue) → IsWritten f text extent seconds
      → Writes (PutsFeature p f) old new result
  pub ran : IsTrue old.in_transaction → OnOk result (RanInsert p text old new)

-- rows of features are inserted into a collection, all or none
abbrev pub InsertsFeatures : Text → List FeatureRow → Seen → Seen → Result Bool Error → Type 0
InsertsFeatures name rows old new result =
    IsTrue old.in_transaction → (entries : List Entry) → AreRowsOf entries rows
    → PutsAllOrNone name entries old new result
