-- Rows of features that one statement inserts.
use Rattle.std.specs.Prelude.{◌≡◌, ℤ, Bool, List, [], ◌∷◌, ◌++◌, None, Some, option_map, Result}
use Rattle.std.specs.Prelude.{MatchResult, MatchBool}
use Rattle.std.specs.List.{AllZip}
use Rattle.std.specs.FinMap.{get}
use Rattle.sqlite.specs.declared.error.Error.{Error}
use Rattle.sqlite.specs.declared.types.Value.TheVariants.{Int, Text as Words}
use Rattle.sqlite.specs.Order.{Row}
use Rattle.sqlite.specs.Values.{or_null}
use Rattle.sqlite.specs.State.{State as Seen, IsUnchanged}
use Rattle.streetmap_grid.specs.Values.{BoxValue}
use Rattle.streetmap_grid.specs.Views.{box_value}
use Rattle.streetmap_geojson.specs.FeatureValue.{FeatureValue}
use Rattle.streetmap_geojson.specs.FeatureInvariant.{IsFeature}
use Rattle.streetmap_batch.specs.Text.{Text}
use Rattle.streetmap_ledger.specs.State.{State, Collection}
use Rattle.streetmap_rows.specs.Calls.{IsWritten, PutsFeature}
use Rattle.streetmap_rows.specs.Representations.{StandsFor}
use Rattle.streetmap_rows.specs.Elsewhere.{IsSameElsewhere}
use Rattle.streetmap_rows.specs.Failures.{IsOfStore}
use Rattle.streetmap_rows.specs.declared.feature_rows.FeatureRow.{FeatureRow}

-- the values of a row in the collection of this name, and of rows, one after the other
abbrev pub values_of : Text → FeatureRow → Row
values_of name row =
    Words name ∷ Words row.id.now ∷ Words row.text.now
    ∷ or_null Int (option_map (λ (b : BoxValue). b.x0) (option_map box_value row.extent))
    ∷ or_null Int (option_map (λ (b : BoxValue). b.y0) (option_map box_value row.extent))
    ∷ or_null Int (option_map (λ (b : BoxValue). b.x1) (option_map box_value row.extent))
    ∷ or_null Int (option_map (λ (b : BoxValue). b.y1) (option_map box_value row.extent))
    ∷ or_null Int (option_map (λ (s : ℤ × ℤ). s.0) row.seconds)
    ∷ or_null Int (option_map (λ (s : ℤ × ℤ). s.1) row.seconds) ∷ []

abbrev pub values_in : Text → List FeatureRow → Row
values_in name [] = []
values_in name (row ∷ more) = values_of name row ++ values_in name more

-- a feature and the id that it is kept under
abbrev pub Entry : Type 0
Entry = Text × FeatureValue

-- the row is what is written of the feature
pub record IsRowOf (e : Entry) (row : FeatureRow) : Type 0 where
  pub named : row.id.now ≡ e.0
  pub written : IsWritten e.1 row.text.now (option_map box_value row.extent) row.seconds
  pub fine : IsFeature e.1

abbrev pub AreRowsOf : List Entry → List FeatureRow → Type 0
AreRowsOf = AllZip IsRowOf

-- new features are inserted into their collection, one after the other
abbrev pub PutsEach : Text → List Entry → State → State → Type 0
PutsEach name [] s t = t ≡ s
PutsEach name (e ∷ more) s t =
    (m : State) × PutsFeature (name, e.0) e.1 s m × PutsEach name more m t

-- a write of features into an existing collection: each was new and is inserted, one after the
-- other, and the database is the same outside our tables; or the statement was refused, and nothing
-- changed; or the store has no room or fails
abbrev pub PutsAllOrNone : Text → List Entry → Seen → Seen → Result Bool Error → Type 0
PutsAllOrNone name es old new r =
    old.step_limit ≡ None → (s : State) (c : Collection) → StandsFor s old.now
    → get s.collections name ≡ Some c
    → MatchResult r (λ put. MatchBool put ((t : State) × PutsEach name es s t
    × StandsFor t new.now × IsSameElsewhere old.now new.now) (IsUnchanged old new)) IsOfStore
