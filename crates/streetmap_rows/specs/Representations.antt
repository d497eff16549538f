-- A database that represents a state, and a read of its rows.
use Rattle.std.specs.Prelude.{◌≡◌, None, Some, Result, MatchResult, IfSome, IsUtf8}
use Rattle.std.specs.FinMap.{get}
use Rattle.sqlite.specs.Effect.{Database, IsDatabase}
use Rattle.sqlite.specs.State.{State as Seen, IsUnchanged, KeepsCommit}
use Rattle.sqlite.specs.declared.error.Error.{Error}
use Rattle.streetmap_geojson.specs.FeatureValue.{FeatureValue}
use Rattle.streetmap_geojson.specs.FeatureInvariant.{IsFeature}
use Rattle.streetmap_batch.specs.Text.{Text}
use Rattle.streetmap_ledger.specs.State.{State, Collection}
use Rattle.streetmap_rows.specs.Holds.{KeyPair}
use Rattle.streetmap_rows.specs.Failures.{IsOfStore}
use Rattle.streetmap_rows.specs.Tables.{Roots, IsOurs}
use Rattle.streetmap_rows.specs.Rows.{feature_at, AreOf}

-- the names of a collection are texts
pub record HasTextNames (name : Text) (c : Collection) : Type 0 where
  pub id : IsUtf8 name
  pub title : IsUtf8 c.title
  pub time : IfSome c.time IsUtf8

-- what is kept of a state can be read again
pub record CanBeRead (s : State) : Type 0 where
  pub collections : (name : Text) (c : Collection) → get s.collections name ≡ Some c
      → HasTextNames name c
  pub features : (p : KeyPair) (f : FeatureValue) → feature_at s p ≡ Some f → IsFeature f

-- Its tables are ours, and their rows are those of the state.
pub record StandsFor (s : State) (db : Database) : Type 0 where
  pub roots : Roots
  pub ours : IsOurs roots db.schema
  pub of : AreOf s roots db.trees
  pub readable : CanBeRead s
  pub sound : IsDatabase db

-- a read of the rows of a state, which leaves them
abbrev pub ReadsInState : {A : Type 0} → (State → A) → Seen → Seen → Result A Error → Type 0
ReadsInState f old new r = old.step_limit ≡ None → (s : State) → StandsFor s old.now
    → MatchResult r (λ a. (a ≡ f s) × IsUnchanged old new) (λ e. IsOfStore e × KeepsCommit old new)
