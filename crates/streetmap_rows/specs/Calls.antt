-- The effect of a statement, on a connection whose database is that of a state.
use Rattle.std.specs.Prelude.{◌≡◌, ℕ, ℤ, ◌+◌, ◌≤◌, List, ◌∷◌, Ok, Vec, Option, None, Some, Result}
use Rattle.std.specs.Prelude.{MatchResult, IfSome, IsUtf8}
use Rattle.std.specs.FinMap.{get, insert, remove, len}
use Rattle.std.specs.declared.alloc.Global.{Global}
use Rattle.sqlite.specs.declared.error.Error.{Error}
use Rattle.sqlite.specs.Order.{Row}
use Rattle.sqlite.specs.declared.types.Value.TheVariants.{Text as Words}
use Rattle.sqlite.specs.State.{State as Seen, IsUnchanged, KeepsCommit, ExecutesInside}
use Rattle.streetmap_rows.specs.Statements.{insert_feature}
use Rattle.streetmap_grid.specs.Values.{BoxValue}
use Rattle.streetmap_geojson.specs.FeatureValue.{FeatureValue}
use Rattle.streetmap_geojson.specs.FeatureInvariant.{IsFeature}
use Rattle.streetmap_batch.specs.Text.{Text}
use Rattle.streetmap_ledger.specs.State.{State, Collection, AcceptedBatch, with_features, opened}
use Rattle.streetmap_rows.specs.Rows.{feature_text, extent_in, seconds_in}
use Rattle.streetmap_rows.specs.Representations.{StandsFor}
use Rattle.streetmap_rows.specs.Elsewhere.{IsSameElsewhere}
use Rattle.streetmap_rows.specs.Failures.{IsOfStore}
use Rattle.streetmap_rows.specs.Holds.{KeyPair}

-- the rows of a read, which leaves the database
abbrev pub ReadsRows : (State → List Row) → Seen → Seen → Result (Vec Row Global) Error → Type 0
ReadsRows f old new r = old.step_limit ≡ None → (s : State) → StandsFor s old.now
    → MatchResult r (λ rows. (rows.items ≡ f s) × IsUnchanged old new) (λ e. IsOfStore e
    × KeepsCommit old new)

-- a write that leads from one state to another: the database becomes the other's and is the same
-- outside our tables, or the store has no room or fails
abbrev pub Writes : (State → State → Type 0) → Seen → Seen → Result (Unit {0}) Error → Type 0
Writes Leads old new r = old.step_limit ≡ None → (s t : State) → StandsFor s old.now → Leads s t
    → MatchResult r (λ _. StandsFor t new.now × IsSameElsewhere old.now new.now) IsOfStore

-- a new collection is opened
pub record OpensCollection (name title : Text) (time : Option Text) (s t : State) : Type 0 where
  pub absent : get s.collections name ≡ None
  pub id : IsUtf8 name
  pub words : IsUtf8 title
  pub property : IfSome time IsUtf8
  pub is : t ≡ opened s name title time

-- this is written for the feature
pub record IsWritten (f : FeatureValue) (text : Text) (extent : Option BoxValue)
    (seconds : Option (ℤ × ℤ)) : Type 0 where
  pub text_is : text ≡ feature_text f
  pub extent_is : extent ≡ extent_in f
  pub seconds_are : seconds ≡ seconds_in f

-- a new feature is inserted into its collection
pub record PutsFeature (p : KeyPair) (f : FeatureValue) (s t : State) : Type 0 where
  pub collection : Collection
  pub there : get s.collections p.0 ≡ Some collection
  pub absent : get collection.features p.1 ≡ None
  pub fine : IsFeature f
  pub is : t ≡ with_features s p.0 collection (insert collection.features p.1 f)

-- an existing feature is deleted
pub record CutsFeature (p : KeyPair) (s t : State) : Type 0 where
  pub collection : Collection
  pub there : get s.collections p.0 ≡ Some collection
  pub feature : FeatureValue
  pub found : get collection.features p.1 ≡ Some feature
  pub is : t ≡ with_features s p.0 collection (remove collection.features p.1)

-- a batch is kept under a new key, with the next serial
pub record KeepsBatch (key : Text) (kept : AcceptedBatch) (s t : State) : Type 0 where
  pub absent : get s.keys key ≡ None
  pub next : kept.serial ≡ len s.keys + 1
  pub counted : (q : Text) (k : AcceptedBatch) → get s.keys q ≡ Some k → k.serial ≤ len s.keys
  pub is : t ≡ record s { keys = insert s.keys key kept }

-- a row was inserted into the features, under this collection and this id, with this text
abbrev pub RanInsert : KeyPair → Text → Seen → Seen → Type 0
RanInsert p text old new =
    (more : Row) × (count : ℕ)
    × ExecutesInside 0 insert_feature (Words p.0 ∷ Words p.1 ∷ Words text ∷ more) old new (Ok count)
