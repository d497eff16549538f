-- The result of a check of tables.
use Rattle.std.specs.Prelude.{◌≡◌, ◌+◌, ℕ, List, [], ◌∷◌, length, Result, Ok, Err, IsTrue}
use Rattle.std.specs.Prelude.{map, codes, pos}
use Rattle.sqlite.specs.Order.{Row}
use Rattle.sqlite.specs.declared.types.Value.TheVariants.{Int, Text as Words}
use Rattle.sqlite_rules.specs.Lists.{Has}
use Rattle.streetmap_ledger.specs.WellFormed.{IsState}
use Rattle.streetmap_rows.specs.Rows.{collection_cells, batch_cells}
use Rattle.streetmap_rows.specs.Statements.{select_collections}
use Rattle.streetmap_checking.specs.Statements.{select_formats, select_features, select_owners}
use Rattle.streetmap_checking.specs.Statements.{select_batches}
use Rattle.streetmap_reading.specs.ShownQueries.{QueryShows}
use Rattle.streetmap_checking.specs.Good.{feature_view, AreOwnerRows}
use Rattle.std.specs.FinMap.{len, entries}
use Rattle.sqlite.specs.State.{State as Seen}
use Rattle.streetmap_batch.specs.Text.{Text}
use Rattle.streetmap_ledger.specs.State.{State, Collection}
use Rattle.streetmap_rows.specs.Failures.{IsOfStore}
use Rattle.streetmap_rows.specs.declared.failures.Stop.{Stop}
use Rattle.streetmap_rows.specs.declared.failures.Stop.TheVariants.{Memory, Closed}
use Rattle.streetmap_rows.specs.declared.failures.Shut.TheVariants.{Device, Damaged}
use Rattle.streetmap_rows.specs.KeptStates.{Rests}
use Rattle.streetmap_checking.specs.QueryResults.{Known, SeesFormat, SeesCollections}
use Rattle.streetmap_checking.specs.QueryResults.{SeesAllFeatures}
use Rattle.streetmap_checking.specs.QueryResults.{SeesOwners, SeesBatches, NoFormat, NoCollections}
use Rattle.streetmap_checking.specs.QueryResults.{NoFeaturesOfAll, NoOwners, NoBatches}
use Rattle.streetmap_checking.specs.declared.check.Totals.{Totals}

-- the rows that are shown are good, and their numbers are these totals
pub record ShowsTotals (totals : Totals) (seen : Seen) : Type 0 where
  pub format : SeesFormat seen
  pub heads : List Known
  pub collections : SeesCollections heads seen
  pub counted : totals.collections ≡ length heads
  pub features : SeesAllFeatures heads totals.features seen
  pub owners : SeesOwners heads seen
  pub batches : SeesBatches totals.batches seen

-- what is not shown as good rows: the format, the collections, the features of one of them, the
-- collections that features name, or the batches
pub data IsDamaged (seen : Seen) : Type 0 where
  by_format : NoFormat seen → IsDamaged seen
  by_collections : NoCollections seen → IsDamaged seen
  by_features : (heads : List Known) → SeesCollections heads seen → NoFeaturesOfAll heads seen
      → IsDamaged seen
  by_owners : (heads : List Known) → SeesCollections heads seen → NoOwners heads seen
      → IsDamaged seen
  by_batches : NoBatches seen → IsDamaged seen

-- the number of features in these collections
abbrev pub feature_count : List (Text × Collection) → ℕ
feature_count [] = 0
feature_count (e ∷ es) = len e.1.features + feature_count es

-- the numbers of a state
pub record AreTotals (s : State) (totals : Totals) : Type 0 where
  pub collections : totals.collections ≡ len s.collections
  pub features : totals.features ≡ feature_count (entries s.collections)
  pub batches : totals.batches ≡ len s.keys

-- The rows that are shown are those of the state: the format's and no other, its collections in
-- byte order of ids, of each its features in byte order of ids, and its batches in byte order of
-- keys; and each row of a feature names a collection of it.
pub record ShowsState (s : State) (seen : Seen) : Type 0 where
  pub format : QueryShows select_formats [] seen ((Words (codes "format") ∷ Int (pos 2) ∷ []) ∷ [])
  pub collections : QueryShows select_collections [] seen
      (map (λ e. collection_cells e.0 e.1) (entries s.collections))
  pub features : (e : Text × Collection) → Has (entries s.collections) e
      → QueryShows select_features (Words e.0 ∷ []) seen
      (map (λ f. feature_view f.0 f.1) (entries e.1.features))
  pub owners : (rows : List Row) × QueryShows select_owners [] seen rows
      × AreOwnerRows (map (λ e. e.0) (entries s.collections)) rows
  pub batches : QueryShows select_batches [] seen (map (λ e. batch_cells e.0 e.1) (entries s.keys))

-- the totals are the numbers of a well-formed state whose rows are shown
pub record IsOfState (totals : Totals) (seen : Seen) : Type 0 where
  pub state : State
  pub well : IsState state
  pub shows : ShowsState state seen
  pub numbers : AreTotals state totals

-- The result is what the queries show, whatever the tables are; but the store may fail, or memory
-- may run out.
abbrev pub ChecksBy : Seen → Result Totals Stop → Type 0
ChecksBy seen (Ok totals) = IsOfState totals seen
ChecksBy seen (Err (Closed Damaged)) = IsDamaged seen
ChecksBy seen (Err (Closed (Device e))) = IsOfStore e
ChecksBy seen (Err Memory) = Unit {0}

-- The tables of a state are never damaged: the numbers are its own, and the connection rests at it.
-- But the store may fail, or memory may run out, which changes nothing.
abbrev pub ChecksState : State → Seen → Seen → Result Totals Stop → Type 0
ChecksState s old new (Ok totals) = AreTotals s totals × Rests new s
ChecksState s old new (Err Memory) = Rests new s
ChecksState s old new (Err (Closed (Device e))) = IsTrue new.is_open → Rests new s
ChecksState s old new (Err (Closed Damaged)) = ⊥
