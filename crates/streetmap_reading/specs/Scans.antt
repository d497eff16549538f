-- The effect of taking batches from the rows of a query.
use Rattle.std.specs.Prelude.{◌≡◌, ◌≤◌, ◌-◌, ℕ, List, [], ◌∷◌, ◌++◌, map, length, take, Option}
use Rattle.std.specs.Prelude.{None, Some, Vec, Result, MatchResult, IsUtf8}
use Rattle.std.specs.List.{AllByRecursion}
use Rattle.std.specs.declared.alloc.Global.{Global}
use Rattle.sqlite.specs.Given.{HasGiven}
use Rattle.sqlite.specs.Held.{Held, state}
use Rattle.sqlite.specs.Order.{Row}
use Rattle.sqlite.specs.State.{State as Seen, IsUnchanged}
use Rattle.sqlite.specs.Store.{Ghosts}
use Rattle.streetmap_reading.specs.Candidates.{ShowsOf}
use Rattle.streetmap_rows.specs.TableReads.{Stopped}
use Rattle.streetmap_rows.specs.declared.fault.ReadFault.{ReadFault}
use Rattle.streetmap_ledger.specs.Kept.{KeyedBatch, text_bytes}
use Rattle.streetmap_ledger.specs.KeptView.{keyed_batch, keyed_batches}
use Rattle.streetmap_ledger.specs.declared.kept_batch.KeptBatch.{KeptBatch}
use Rattle.streetmap_reading.specs.Serials.{row_of}

-- their keys are texts
abbrev pub HaveKeys : List KeyedBatch → Type 0
HaveKeys bs = AllByRecursion (λ b. IsUtf8 b.0) bs

-- the first of these batches: at least one, if any; and without the last of them their
-- texts have no more bytes than the room allows
pub record AreFirst (room : ℕ) (all found : List KeyedBatch) : Type 0 where
  pub rest : List KeyedBatch
  pub are : found ++ rest ≡ all
  pub some : found ≡ [] → all ≡ []
  pub few : text_bytes (take (length found - 1) found) ≤ room

module _ {S : Type 0} (g : Ghosts S) where
  -- one more batch was taken, or none was left
  abbrev pub TookBatch : List ℕ → Row → List KeyedBatch → List KeyedBatch → Held S
      → Option KeptBatch → Type 0
  TookBatch sql params done rest new None = rest ≡ []
  TookBatch sql params done rest new (Some batch) =
      (later : List KeyedBatch) × (rest ≡ keyed_batch batch ∷ later)
      × HasGiven g sql params new (map row_of done ++ row_of (keyed_batch batch) ∷ [])

  -- a query that shows the rows of these batches, after some of them were taken
  abbrev pub TakesBatch : Held S → Held S → Result (Option KeptBatch) ReadFault → Type 0
  TakesBatch old new result =
      (sql : List ℕ) (params : Row) (done rest : List KeyedBatch)
      → (state g old).step_limit ≡ None
      → ShowsOf sql params (state g old).now (map row_of done ++ map row_of rest)
      → HaveKeys rest → HasGiven g sql params old (map row_of done)
      → MatchResult result
      (λ found. TookBatch sql params done rest new found × IsUnchanged (state g old) (state g new))
      (Stopped (state g old) (state g new))

  -- before any of them was taken
  abbrev pub TakesBatches : ℕ → Held S → Held S → Result (Vec KeptBatch Global) ReadFault → Type 0
  TakesBatches room old new result =
      (sql : List ℕ) (params : Row) (all : List KeyedBatch)
      → (state g old).step_limit ≡ None
      → ShowsOf sql params (state g old).now (map row_of all)
      → HaveKeys all → HasGiven g sql params old []
      → MatchResult result
      (λ found. AreFirst room all (keyed_batches found.items)
      × IsUnchanged (state g old) (state g new))
      (Stopped (state g old) (state g new))

-- a query that shows the rows of these batches
abbrev pub TakesFirst : ℕ → List ℕ → Row → Seen → Seen
    → Result (Vec KeptBatch Global) ReadFault → Type 0
TakesFirst room sql params old new result =
    (all : List KeyedBatch) → old.step_limit ≡ None
    → ShowsOf sql params old.now (map row_of all) → HaveKeys all
    → MatchResult result
    (λ found. AreFirst room all (keyed_batches found.items) × IsUnchanged old new) (Stopped old new)
