-- What is written of a feature.
use Rattle.std.specs.Prelude.{◌≡◌, ℤ, Option, None, Some, Result, Ok, Err, MatchResult, IfOk, IsTrue}
use Rattle.std.specs.Prelude.{String, string_bytes}
use Rattle.std.specs.Option.{option_map}
use Rattle.std.specs.FinMap.{get}
use Rattle.std.specs.declared.alloc.Global.{Global}
use Rattle.sqlite.specs.declared.error.Error.{Error}
use Rattle.sqlite.specs.State.{State as Seen, IsUnchanged, KeepsCommit}
use Rattle.streetmap_geojson.specs.FeatureValue.{FeatureValue}
use Rattle.streetmap_geojson.specs.FeatureInvariant.{IsFeature}
use Rattle.streetmap_batch.specs.Text.{Text}
use Rattle.streetmap_ledger.specs.State.{State, Collection, timed, with_feature}
use Rattle.streetmap_ledger.specs.declared.reply.Refusal.{Refusal}
use Rattle.streetmap_rows.specs.Failures.{IsOfStore}
use Rattle.streetmap_rows.specs.Calls.{RanInsert}
use Rattle.streetmap_rows.specs.Representations.{StandsFor}
use Rattle.streetmap_rows.specs.Rows.{feature_text, extent_in, seconds_in}
use Rattle.streetmap_tables.specs.EditEffects.{KeepsRest}

-- the time property of a collection, if the collection exists: the database stays
abbrev pub FindsTime : Text → Seen → Seen → Result (Option (Option (String Global))) Error → Type 0
FindsTime name old new r =
    old.step_limit ≡ None → (s : State) → StandsFor s old.now
    → MatchResult r (λ found. (option_map (option_map string_bytes) found
    ≡ option_map (λ (c : Collection). c.time) (get s.collections name))
    × IsUnchanged old new) (λ e. IsOfStore e × KeepsCommit old new)

-- these are the seconds of the time that the property gives for the feature; with it the feature is
-- kept, under its id, with its text and its extent
pub record IsTimed (property : Option Text) (f : FeatureValue) (seconds : Option (ℤ
    × ℤ)) : Type 0 where
  pub kept : FeatureValue
  pub is : timed property f ≡ Ok kept
  pub fine : IsFeature kept
  pub named : kept.id ≡ f.id
  pub text_is : feature_text f ≡ feature_text kept
  pub extent_is : extent_in f ≡ extent_in kept
  pub seconds_are : seconds ≡ seconds_in kept

-- the feature is in its collection with its time, or its time cannot be read
abbrev pub WasPut : State → Text → Collection → FeatureValue → Seen → Option Refusal → Type 0
WasPut s name c f new None = (g : FeatureValue) × (timed c.time f ≡ Ok g)
    × StandsFor (with_feature s name c g) new.now
WasPut s name c f new (Some why) = timed c.time f ≡ Err why

-- a new feature is inserted into an existing collection, inside a transaction
abbrev pub Puts : Text → Option Text → FeatureValue → Seen → Seen → Result (Option Refusal) Error
    → Type 0
Puts name property f old new r =
    old.step_limit ≡ None → IsTrue old.in_transaction → (s : State) (c : Collection)
    → StandsFor s old.now → get s.collections name ≡ Some c → c.time ≡ property
    → get c.features f.id ≡ None
    → MatchResult r (λ o. WasPut s name c f new o × IsTrue new.in_transaction
    × KeepsRest old new) (λ e. IsOfStore e × KeepsCommit old new)

-- and the row that is inserted has its id and its text
pub record PutsWithText (name : Text) (property : Option Text) (f : FeatureValue) (old new : Seen)
    (r : Result (Option Refusal) Error) : Type 0 where
  pub puts : Puts name property f old new r
  pub ran : IsTrue old.in_transaction → IfOk r (λ refusal. refusal ≡ None
      → RanInsert (name, f.id) (feature_text f) old new)
