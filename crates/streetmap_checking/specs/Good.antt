-- Rows that are those of a state, table by table.
use Rattle.std.specs.Prelude.{◌≡◌, ◌≢◌, ◌≤◌, ℕ, ℤ, T, List, [], ◌∷◌, map, length, drop, codes, pos}
use Rattle.std.specs.Prelude.{Option, option_map, IsTrue}
use Rattle.std.specs.List.{AllByRecursion}
use Rattle.std.specs.FinMap.{is_sorted}
use Rattle.sqlite.specs.declared.types.Value.TheVariants.{Int, Text as Words}
use Rattle.sqlite.specs.Order.{Row, column}
use Rattle.sqlite.specs.Values.{or_null}
use Rattle.sqlite_trees.specs.Tree.{IsAscending}
use Rattle.sqlite_rules.specs.Lists.{Has}
use Rattle.streetmap_grid.specs.Values.{BoxValue}
use Rattle.streetmap_geojson.specs.FeatureValue.{FeatureValue}
use Rattle.streetmap_batch.specs.Text.{Text, text_cmp}
use Rattle.streetmap_batch.specs.BatchFacts.{IsTitle, IsTimePropertyIf}
use Rattle.streetmap_batch.specs.ParsedBatches.{most_edits}
use Rattle.streetmap_batch.specs.Names.{is_key, is_collection_id}
use Rattle.streetmap_ledger.specs.State.{AcceptedBatch}
use Rattle.streetmap_ledger.specs.Batches.{most_batches}
use Rattle.streetmap_ledger.specs.WellFormed.{IsPlaced, AreCounts}
use Rattle.streetmap_rows.specs.Rows.{feature_cells, batch_cells}

-- the rows of entries in byte order of their keys, each of which is valid
pub record AreEntryRows {V : Type 0} (cells : Text → V → Row) (Fine : Text → V
    → Type 0) (rows : List Row) : Type 0 where
  pub entries : List (Text × V)
  pub are : rows ≡ map (λ e. cells e.0 e.1) entries
  pub rising : T (is_sorted text_cmp entries)
  pub fine : AllByRecursion (λ e. Fine e.0 e.1) entries

-- ---- the format

-- its row, and no other
abbrev pub AreFormatRows : List Row → Type 0
AreFormatRows rows = rows ≡ (Words (codes "format") ∷ Int (pos 2) ∷ []) ∷ []

-- ---- collections

-- a collection without its features
pub record CollectionHead : Type 0 where
  pub title : Text
  pub time : Option Text

abbrev pub head_cells : Text → CollectionHead → Row
head_cells name h = Words name ∷ Words h.title ∷ or_null Words h.time ∷ []

-- its id, title and time property satisfy the rules
pub record IsCollectionHead (name : Text) (h : CollectionHead) : Type 0 where
  pub named : IsTrue (is_collection_id name)
  pub titled : IsTitle h.title
  pub timed : IsTimePropertyIf h.time

abbrev pub AreCollectionRows : List Row → Type 0
AreCollectionRows = AreEntryRows head_cells IsCollectionHead

-- ---- features

-- a feature without its collection: its id, text, bounds or NULLs, seconds or NULLs
abbrev pub feature_view : Text → FeatureValue → Row
feature_view id f = drop 1 (feature_cells ([], id) f)

-- a row of a feature has this id and this text
abbrev pub HasTextCells : Text → Text → Row → Type 0
HasTextCells id body row = (column row 0 ≡ Words id) × (column row 1 ≡ Words body)

-- it has the bounds of this extent, or NULLs
abbrev pub HasExtentCells : Option BoxValue → Row → Type 0
HasExtentCells e row =
    (column row 2 ≡ or_null Int (option_map (λ (b : BoxValue). b.x0) e))
    × (column row 3 ≡ or_null Int (option_map (λ (b : BoxValue). b.y0) e))
    × (column row 4 ≡ or_null Int (option_map (λ (b : BoxValue). b.x1) e))
    × (column row 5 ≡ or_null Int (option_map (λ (b : BoxValue). b.y1) e))

-- it has the seconds of this time
abbrev pub HasSeconds : Option (ℤ × ℤ) → Row → Type 0
HasSeconds o row = (column row 6 ≡ or_null Int (option_map (λ (s : ℤ × ℤ). s.0) o))
    × (column row 7 ≡ or_null Int (option_map (λ (s : ℤ × ℤ). s.1) o))

-- each feature is kept under its id, with the time that this property gives, and beside it are its
-- extent and its seconds
abbrev pub AreFeatureRows : Option Text → List Row → Type 0
AreFeatureRows property = AreEntryRows feature_view (IsPlaced property)

-- each names one of these collections
abbrev pub AreOwnerRows : List Text → List Row → Type 0
AreOwnerRows names rows = AllByRecursion (λ row. (name : Text) × Has names name
    × (row ≡ Words name ∷ [])) rows

-- ---- batches

-- a row has a number from 0 to this
abbrev pub HasNumber : ℕ → Row → ℕ → Type 0
HasNumber most row at = (n : ℕ) × (column row at ≡ Int (pos n)) × (n ≤ most)

-- a row of a batch has a text and the counts of a batch
abbrev pub HasBatch : Row → Type 0
HasBatch row = ((text : Text) × (column row 1 ≡ Words text)) × HasNumber most_edits row 2
    × HasNumber most_edits row 3 × HasNumber most_edits row 4 × HasNumber most_edits row 5

-- a key, and the counts of a batch
pub record IsAccepted (key : Text) (k : AcceptedBatch) : Type 0 where
  pub keyed : IsTrue (is_key key)
  pub counted : AreCounts k.counts

-- n serials from 1 to n, and no two the same
pub record AreSerials (serials : List ℕ) : Type 0 where
  pub from_one : AllByRecursion (λ n. 1 ≤ n) serials
  pub to_count : AllByRecursion (λ n. n ≤ length serials) serials
  pub one_each : IsAscending (λ m n. m ≢ n) serials
  pub not_too_many : length serials ≤ most_batches

abbrev pub serials_of : List (Text × AcceptedBatch) → List ℕ
serials_of es = map (λ e. e.1.serial) es

abbrev pub AreBatchRows : List Row → Type 0
AreBatchRows rows = (are : AreEntryRows batch_cells IsAccepted rows)
    × AreSerials (serials_of are.entries)
