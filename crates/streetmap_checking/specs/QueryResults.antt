-- What the queries of a check show, whatever the tables are.
use Rattle.std.specs.Prelude.{◌≡◌, ℕ, ◌+◌, List, [], ◌∷◌, ◌++◌, map, length, Option, Result}
use Rattle.std.specs.Prelude.{Ok, Err}
use Rattle.sqlite.specs.declared.types.Value.TheVariants.{Text as Words}
use Rattle.sqlite.specs.Order.{Row}
use Rattle.sqlite.specs.State.{State as Seen, IsUnchanged}
use Rattle.sqlite_rules.specs.Lists.{Has}
use Rattle.streetmap_batch.specs.Text.{Text}
use Rattle.streetmap_rows.specs.Failures.{IsOfStore, HasReason}
use Rattle.streetmap_rows.specs.Statements.{select_collections}
use Rattle.streetmap_rows.specs.declared.fault.ReadFault.{ReadFault}
use Rattle.streetmap_rows.specs.declared.fault.ReadFault.TheVariants.{Memory, Store, Unread}
use Rattle.streetmap_tables.specs.Adoption.{IsAsItWas}
use Rattle.streetmap_checking.specs.Statements.{select_formats, select_features, select_owners}
use Rattle.streetmap_checking.specs.Statements.{select_batches}
use Rattle.streetmap_reading.specs.ShownQueries.{QueryShows, QueryBegins, QueryIsRefused}
use Rattle.streetmap_checking.specs.Good.{AreFormatRows, AreCollectionRows, AreFeatureRows}
use Rattle.streetmap_checking.specs.Good.{AreOwnerRows, AreBatchRows}

-- why a query does not show good rows: it is refused; no good rows begin with those that it shows
-- first; or those that it shows are not good
pub data IsNotShown (sql : List ℕ) (params : Row) (Good : List Row → Type 0) (seen : Seen) :
    Type 0 where
  is_refused : QueryIsRefused sql params seen → IsNotShown sql params Good seen
  begins_badly : (rows : List Row) → QueryBegins sql params seen rows
      → ((later : List Row) → Good (rows ++ later) → ⊥) → IsNotShown sql params Good seen
  not_good : (rows : List Row) → QueryShows sql params seen rows → (Good rows → ⊥)
      → IsNotShown sql params Good seen

-- a query shows why not, or the store failed, or memory ran out
abbrev pub ShowsWhy : Type 0 → Seen → Seen → ReadFault → Type 0
ShowsWhy why old new Memory = IsUnchanged old new
ShowsWhy why old new Unread = why × IsUnchanged old new
ShowsWhy why old new (Store e) =
    ((¬ (IsOfStore e)) → why) × IsAsItWas old new × HasReason old new e

-- a query that leaves a connection shows this, or why not
abbrev pub ShowsOrWhyNot : {A : Type 0} → (A → Type 0) → Type 0 → Seen → Seen → Result A ReadFault
    → Type 0
ShowsOrWhyNot Is why old new (Ok a) = Is a × IsUnchanged old new
ShowsOrWhyNot Is why old new (Err fault) = ShowsWhy why old new fault

-- ---- each query

-- the row of the format is shown, and no other
abbrev pub SeesFormat : Seen → Type 0
SeesFormat seen = (rows : List Row) × QueryShows select_formats [] seen rows × AreFormatRows rows

-- a collection by its id and its time property
abbrev pub Known : Type 0
Known = Text × Option Text

-- these collections are shown
abbrev pub SeesCollections : List Known → Seen → Type 0
SeesCollections heads seen = (rows : List Row) × QueryShows select_collections [] seen rows
    × (are : AreCollectionRows rows) × (heads ≡ map (λ e. (e.0, e.1.time)) are.entries)

-- this number of features of a collection is shown
abbrev pub SeesFeatures : Known → ℕ → Seen → Type 0
SeesFeatures head count seen = (rows : List Row)
    × QueryShows select_features (Words head.0 ∷ []) seen rows × (are : AreFeatureRows head.1 rows)
    × (count ≡ length are.entries)

-- this number is shown of all these collections
abbrev pub SeesAllFeatures : List Known → ℕ → Seen → Type 0
SeesAllFeatures [] count seen = count ≡ 0
SeesAllFeatures (head ∷ heads) count seen = (first : ℕ) × (others : ℕ)
    × SeesFeatures head first seen × SeesAllFeatures heads others seen × (count ≡ first + others)

-- each feature names one of these collections
abbrev pub SeesOwners : List Known → Seen → Type 0
SeesOwners heads seen = (rows : List Row) × QueryShows select_owners [] seen rows
    × AreOwnerRows (map (λ h. h.0) heads) rows

-- this number of batches is shown
abbrev pub SeesBatches : ℕ → Seen → Type 0
SeesBatches count seen = (rows : List Row) × QueryShows select_batches [] seen rows
    × (are : AreBatchRows rows) × (count ≡ length are.0.entries)

-- ---- why a query shows nothing

abbrev pub NoFormat : Seen → Type 0
NoFormat = IsNotShown select_formats [] AreFormatRows

abbrev pub NoCollections : Seen → Type 0
NoCollections = IsNotShown select_collections [] AreCollectionRows

abbrev pub NoFeatures : Known → Seen → Type 0
NoFeatures head = IsNotShown select_features (Words head.0 ∷ []) (AreFeatureRows head.1)

abbrev pub NoFeaturesOfAll : List Known → Seen → Type 0
NoFeaturesOfAll heads seen = (head : Known) × Has heads head × NoFeatures head seen

abbrev pub NoOwners : List Known → Seen → Type 0
NoOwners heads = IsNotShown select_owners [] (AreOwnerRows (map (λ h. h.0) heads))

abbrev pub NoBatches : Seen → Type 0
NoBatches = IsNotShown select_batches [] AreBatchRows
