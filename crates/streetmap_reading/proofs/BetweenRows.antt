-- What stays between the rows of a query, and why taking them stops.
use Rattle.std.proofs.Common.{◌≡◌, ◌≤◌, ◌<◌, inl, ℕ, List, [], ◌∷◌, ◌++◌, map, length}
use Rattle.std.proofs.Common.{refl, sym, ap, subst, arith}
use Rattle.sqlite.specs.declared.types.Value.TheVariants.{Text as Words}
use Rattle.sqlite.specs.Order.{Row, column}
use Rattle.sqlite.specs.Store.{Ghosts}
use Rattle.sqlite.specs.Given.{HasGiven}
use Rattle.sqlite.specs.Held.{Held, state}
use Rattle.sqlite.specs.State.{State as Seen, IsUnchanged, Survives}
use Rattle.sqlite_trees.specs.Tree.{Trees}
use Rattle.sqlite.proofs.StateLemmas.{unchanged, survives_then}
use Rattle.streetmap_geojson.specs.FeatureValue.{FeatureValue}
use Rattle.streetmap_rows.specs.Rows.{feature_text}
use Rattle.streetmap_reading.specs.Candidates.{candidate_row}

pub map_append : {A B : Type 0} (f : A → B) (xs ys : List A) → map f (xs ++ ys) ≡ map f xs ++ map f ys
map_append f [] ys = refl
map_append f (x ∷ xs) ys = ap (λ l. f x ∷ l) (map_append f xs ys)

-- the row of a candidate begins with its text
pub first_cell : (f : FeatureValue) (row : Row) → row ≡ candidate_row f → 0 < length row
first_cell f row is = subst (λ r. 0 < length r) (sym is) (omega arith)

pub first_text : (f : FeatureValue) (row : Row) → row ≡ candidate_row f → column row 0 ≡ Words (feature_text f)
first_text f row is = ap (λ r. column r 0) is

pub given_open : {S : Type 0} (g : Ghosts S) (sql : List ℕ) (params : Row) (h : Held S) (given : List Row) → HasGiven g sql params h given →
    IsUnchanged (state g h) (state g h)
unfolding HasGiven
given_open g sql params h given it = unchanged (state g h) it.0.is_open

pub survives_still : (s : Seen) (P : Trees → Type 0) → Survives s s P
survives_still s P = record { clean = omega arith; shield = λ h. h; counts = omega arith; limit = refl; closes = λ clean o. inl o; crash = λ clean db l. inl l }

pub survives_on : (a b c : Seen) → Survives a b (λ _. ⊥) → Survives b c (λ _. ⊥) → Survives a c (λ _. ⊥)
survives_on a b c p q = survives_then a b c (λ _. ⊥) (λ _. ⊥) (λ _. ⊥) (λ clean db h. h) (λ clean db h. h) p q
