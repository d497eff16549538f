-- A state whose features are inserted one after the other.
use Rattle.std.specs.Prelude.{◌≡◌, ◌≢◌, ◌⊎◌, ℕ, codes, List, [], ◌∷◌, map, Option, None, Some}
use Rattle.std.specs.Prelude.{option_map, Result, Ok, Vec, String, string_bytes, MatchResult}
use Rattle.std.specs.Prelude.{IsTrue, IfOk, OnOk}
use Rattle.std.specs.List.{AllByRecursion}
use Rattle.std.specs.FinMap.{get, empty, entries, from_entries}
use Rattle.std.specs.declared.alloc.Global.{Global}
use Rattle.sqlite.specs.Order.{Row, column, bytes}
use Rattle.sqlite.specs.State.{State as Seen, IsUnchanged, ExecutesInside}
use Rattle.sqlite_trees.specs.Tree.{IsAscending}
use Rattle.sqlite_rules.specs.Lists.{Has}
use Rattle.streetmap_geojson.specs.FeatureValue.{FeatureValue}
use Rattle.streetmap_batch.specs.Text.{Text}
use Rattle.streetmap_ledger.specs.State.{State, Collection}
use Rattle.streetmap_ledger.specs.WellFormed.{IsState}
use Rattle.streetmap_rows.specs.Failures.{IsOfStore}
use Rattle.sqlite.specs.Store.{Ghosts}
use Rattle.sqlite.specs.Held.{Held, state}
use Rattle.streetmap_rows.specs.Calls.{RanInsert}
use Rattle.streetmap_rows.specs.Holds.{KeyPair}
use Rattle.streetmap_rows.specs.Stored.{TextReadsAs}
use Rattle.streetmap_rows.specs.Rows.{feature_at, feature_text}
use Rattle.streetmap_rows.specs.Representations.{StandsFor}
use Rattle.streetmap_rows.specs.Elsewhere.{IsSameElsewhere}
use Rattle.streetmap_rows.specs.declared.fault.ReadFault.{ReadFault}
use Rattle.streetmap_rows.specs.declared.fault.ReadFault.TheVariants.{Memory, Store, Unread}
use Rattle.streetmap_tables.specs.Creation.{format_text}
use Rattle.streetmap_tables.specs.Old.{KeepsOld, old_cells}
use Rattle.streetmap_tables.specs.QueryResults.{Sees}

-- a collection, or a state, without its features
abbrev pub bare : Collection → Collection
bare c = record c { features = empty }

abbrev pub emptied : State → State
emptied s = record s {
  collections = from_entries
      (map (λ e. (e.0, bare e.1)) (entries s.collections));
}

-- the collection and the id in a row of format 1
abbrev pub pair_in : Row → KeyPair
pair_in r = (bytes (column r 0), bytes (column r 1))

-- and the text of the feature
abbrev pub body_in : Row → Text
body_in r = bytes (column r 2)

-- it is the row of a feature of the state
abbrev pub IsRowOf : State → Row → Type 0
IsRowOf s r = (p : KeyPair) × (f : FeatureValue) × (feature_at s p ≡ Some f) × (r ≡ old_cells p f)

-- a row for each feature of the state
pub record AreRowsOf (s : State) (rows : List Row) : Type 0 where
  pub each : AllByRecursion (IsRowOf s) rows
  pub apart : IsAscending (λ a b. pair_in a ≢ pair_in b) rows
  pub all : (p : KeyPair) (f : FeatureValue) → feature_at s p ≡ Some f → Has rows (old_cells p f)

-- a state that lacks only the features of these rows, compared with another
pub record Lacks (rows : List Row) (s t : State) : Type 0 where
  pub keys : t.keys ≡ s.keys
  pub heads : (name : Text) → option_map bare (get t.collections name)
      ≡ option_map bare (get s.collections name)
  pub each : AllByRecursion (IsRowOf s) rows
  pub apart : IsAscending (λ a b. pair_in a ≢ pair_in b) rows
  pub missing : AllByRecursion (λ r. feature_at t (pair_in r) ≡ None) rows
  pub within : (p : KeyPair) (f : FeatureValue) → feature_at t p ≡ Some f → feature_at s p ≡ Some f
  pub all : (p : KeyPair) (f : FeatureValue) → feature_at s p ≡ Some f → (feature_at t p ≡ Some f)
      ⊎ Has rows (old_cells p f)

-- a read or a write gave up because memory ran out or the store failed, and met no row that cannot
-- be read
abbrev pub IsMemoryOrStore : ReadFault → Type 0
IsMemoryOrStore Memory = Unit {0}
IsMemoryOrStore (Store e) = IsOfStore e
IsMemoryOrStore Unread = ⊥

-- the rows of the features, which stay
abbrev pub TakesRows : Seen → Seen → Result (Vec Row Global) ReadFault → Type 0
TakesRows old new result = (s : State) → old.step_limit ≡ None → KeepsOld s old.now
    → MatchResult result (λ (rows : Vec Row Global). AreRowsOf s rows.items
    × IsUnchanged old new) IsMemoryOrStore

-- the time property of an existing collection, which stays
abbrev pub FindsTime : Text → Seen → Seen → Result (Option (String Global)) ReadFault → Type 0
FindsTime name old new result =
    old.step_limit ≡ None → (t : State) (c : Collection) → StandsFor t old.now
    → get t.collections name ≡ Some c
    → MatchResult result (λ time. (option_map string_bytes time ≡ c.time)
    × IsUnchanged old new) IsMemoryOrStore

-- the feature of the first row is inserted
abbrev pub PutsRow : Row → Seen → Seen → Result (Unit {0}) ReadFault → Type 0
PutsRow row old new result =
    old.step_limit ≡ None → IsTrue old.in_transaction → (s t : State) (more : List Row) → IsState s
    → StandsFor t old.now → Lacks (row ∷ more) s t
    → MatchResult result (λ _. ((u : State) × StandsFor u new.now × Lacks more s u)
    × IsSameElsewhere old.now new.now) IsMemoryOrStore

-- the features of all rows are inserted
abbrev pub PutsRows : List Row → Seen → Seen → Result (Unit {0}) ReadFault → Type 0
PutsRows rows old new result =
    old.step_limit ≡ None → IsTrue old.in_transaction → (s t : State) → IsState s
    → StandsFor t old.now → Lacks rows s t
    → MatchResult result (λ _. StandsFor s new.now
    × IsSameElsewhere old.now new.now) IsMemoryOrStore

-- the features and the format are dropped, made in format 2, and its number is inserted
abbrev pub remaking_texts : List (List ℕ)
remaking_texts = codes "DROP TABLE streetmap_features" ∷ codes "DROP TABLE streetmap_meta"
    ∷ codes
    "CREATE TABLE streetmap_meta (name TEXT PRIMARY KEY, value INTEGER NOT NULL) STRICT"
    ∷ codes
    "CREATE TABLE streetmap_features (collection TEXT NOT NULL REFERENCES streetmap_collections(id), id TEXT NOT NULL, body TEXT NOT NULL, x0 INTEGER, y0 INTEGER, x1 INTEGER, y1 INTEGER, s0 INTEGER, s1 INTEGER, PRIMARY KEY (collection, id)) STRICT"
    ∷ format_text ∷ []

-- the rows of the features in format 1
abbrev pub old_rows_text : List ℕ
old_rows_text = codes "SELECT collection, id, body FROM streetmap_features"

-- they are taken; and whatever the tables are, they are what the query shows, and nothing changes
pub record TakesOldRows (old new : Seen) (result : Result (Vec Row Global) ReadFault) : Type 0 where
  pub takes : TakesRows old new result
  pub shown : IfOk result (λ (rows : Vec Row Global). Sees old_rows_text old rows.items)
  pub same : OnOk result (new.now ≡ old.now)

-- the time property is found; and whatever the tables are, nothing changes
pub record FindsTimeOf (name : Text) (old new : Seen)
    (result : Result (Option (String Global)) ReadFault) : Type 0 where
  pub finds : FindsTime name old new result
  pub same : OnOk result (new.now ≡ old.now)

module _ {S : Type 0} (g : Ghosts S) where
  -- a statement ran, inside a transaction
  abbrev pub Ran : List ℕ → Held S → Held S → Type 0
  Ran sql old new = (count : ℕ) × ExecutesInside 0 sql [] (state g old) (state g new) (Ok count)

  -- these statements ran, one after the other
  abbrev pub RanEach : List (List ℕ) → Held S → Held S → Type 0
  RanEach [] old new = (state g new).now ≡ (state g old).now
  RanEach (sql ∷ more) old new = (mid : Held S) × Ran sql old mid × RanEach more mid new

  -- For this row of format 1 a row was inserted into the features, under the same collection and
  -- the same id, with the text that is written of the feature that its text reads as; and nothing
  -- else was written.
  abbrev pub PutsOne : Row → Held S → Held S → Type 0
  PutsOne r old new =
      (property : Option Text) × (f : FeatureValue) × TextReadsAs property (body_in r) f
      × ((mid : Held S) × ((state g mid).now ≡ (state g old).now)
      × RanInsert (pair_in r) (feature_text f) (state g mid) (state g new))

  -- the same holds for each of these rows of format 1, one after the other
  abbrev pub PutsEach : List Row → Held S → Held S → Type 0
  PutsEach [] old new = (state g new).now ≡ (state g old).now
  PutsEach (r ∷ rows) old new = (mid : Held S) × PutsOne r old mid × PutsEach rows mid new

  -- the tables of the features and of the format were made again, and then for each row that the
  -- query of the old features showed a row was inserted into the new ones, with its text
  abbrev pub HasCarried : Held S → Held S → Type 0
  HasCarried old new =
      (rows : List Row) × Sees old_rows_text (state g old) rows
      × (first : Held S) × ((state g first).now ≡ (state g old).now)
      × (begun : Held S) × RanEach remaking_texts first begun
      × (last : Held S) × PutsEach rows begun last
      × ((state g new).now ≡ (state g last).now)
