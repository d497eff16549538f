-- The parameters as they are bound.
use Rattle.std.proofs.Common.{◌≡◌, ℤ, List, [], ◌∷◌, ◌++◌, suc, length, Option, None, Some, option_map, option_copied, Bor, Result, Ok, Err, OnOk, is_ok}
use Rattle.std.proofs.Common.{if◌then◌else◌, refl, ap, ◌∙◌}
use Rattle.std.specs.List.{AllByRecursion}
use Rattle.std.proofs.lemmas.List.{map-append}
use Rattle.sqlite_value.specs.Value.{owned}
use Rattle.sqlite_value.specs.declared.value.ValueRef.{ValueRef}
use Rattle.sqlite.specs.declared.types.Value.{Value}
use Rattle.sqlite.specs.declared.types.Value.TheVariants.{Int, Text as Words}
use Rattle.sqlite.specs.Order.{Row}
use Rattle.sqlite.specs.Values.{or_null, bound, bound_value}
use Rattle.streetmap_grid.specs.Values.{BoxValue}
use Rattle.streetmap_geojson.specs.FeatureValue.{FeatureValue}
use Rattle.streetmap_batch.specs.Text.{Text}
use Rattle.streetmap_rows.specs.Holds.{KeyPair}
use Rattle.streetmap_rows.specs.Rows.{feature_cells, extent_in, seconds_in}
use Rattle.streetmap_geojson.specs.FeatureInvariant.{IsFeature}
use Rattle.streetmap_rows.specs.Calls.{IsWritten}
use Rattle.streetmap_rows.specs.declared.feature_rows.FeatureRow.{FeatureRow}
use Rattle.streetmap_rows.specs.FeatureRows.{Entry, IsRowOf, AreRowsOf, values_of, values_in}
use Rattle.streetmap_rows.proofs.FeaturesRun.{cells_of}
use Rattle.streetmap_rows.proofs.ColumnCasts.{whole_null}

abbrev written_cells : KeyPair → Text → Option BoxValue → Option (ℤ × ℤ) → Row
written_cells p text extent seconds =
    Words p.0 ∷ Words p.1 ∷ Words text
    ∷ bound_value (or_null Int (option_map (λ (b : BoxValue). b.x0) extent)) ∷ bound_value (or_null Int (option_map (λ (b : BoxValue). b.y0) extent))
    ∷ bound_value (or_null Int (option_map (λ (b : BoxValue). b.x1) extent)) ∷ bound_value (or_null Int (option_map (λ (b : BoxValue). b.y1) extent))
    ∷ bound_value (or_null Int (option_map (λ (s : ℤ × ℤ). s.0) seconds)) ∷ bound_value (or_null Int (option_map (λ (s : ℤ × ℤ). s.1) seconds)) ∷ []

pub feature_bound : (p : KeyPair) (f : FeatureValue) (text : Text) (extent : Option BoxValue) (seconds : Option (ℤ × ℤ)) → IsWritten f text extent seconds →
    written_cells p text extent seconds ≡ feature_cells p f
feature_bound p f text extent seconds is =
    (λ i. written_cells p (is.text_is i) (is.extent_is i) (is.seconds_are i)) ∙ (λ i. Words p.0 ∷ Words p.1
    ∷ Words (Rattle.streetmap_rows.specs.Rows.feature_text f)
    ∷ (whole_null (option_map (λ (b : BoxValue). b.x0) (extent_in f))).bound_is i ∷ (whole_null (option_map (λ (b : BoxValue). b.y0) (extent_in f))).bound_is i
    ∷ (whole_null (option_map (λ (b : BoxValue). b.x1) (extent_in f))).bound_is i ∷ (whole_null (option_map (λ (b : BoxValue). b.y1) (extent_in f))).bound_is i
    ∷ (whole_null (option_map (λ (s : ℤ × ℤ). s.0) (seconds_in f))).bound_is i ∷ (whole_null (option_map (λ (s : ℤ × ℤ). s.1) (seconds_in f))).bound_is i ∷ [])

pub text_bound : (o : Option (Bor Text)) → bound_value (or_null (λ (t : Bor Text). Words t.now) o) ≡ or_null Words (option_copied o)
text_bound None = refl
text_bound (Some t) = refl

pub nine : {a1 a2 a3 a4 a5 a6 a7 a8 a9 b1 b2 b3 b4 b5 b6 b7 b8 b9 : Value} → a1 ≡ b1 → a2 ≡ b2 → a3 ≡ b3 → a4 ≡ b4 → a5 ≡ b5 → a6 ≡ b6 → a7 ≡ b7 → a8 ≡ b8 → a9
    ≡ b9 → (bound_value a1 ∷ bound_value a2 ∷ bound_value a3 ∷ bound_value a4 ∷ bound_value a5 ∷ bound_value a6 ∷ bound_value a7 ∷ bound_value a8
    ∷ bound_value a9 ∷ []) ≡ (bound_value b1 ∷ bound_value b2 ∷ bound_value b3 ∷ bound_value b4 ∷ bound_value b5 ∷ bound_value b6 ∷ bound_value b7
    ∷ bound_value b8 ∷ bound_value b9 ∷ [])
nine e1 e2 e3 e4 e5 e6 e7 e8 e9 = λ i. bound_value (e1 i) ∷ bound_value (e2 i) ∷ bound_value (e3 i) ∷ bound_value (e4 i) ∷ bound_value (e5 i)
    ∷ bound_value (e6 i) ∷ bound_value (e7 i) ∷ bound_value (e8 i) ∷ bound_value (e9 i) ∷ []

pub seven : {a1 a2 a3 a4 a5 a6 a7 b1 b2 b3 b4 b5 b6 b7 : Value} → a1 ≡ b1 → a2 ≡ b2 → a3 ≡ b3 → a4 ≡ b4 → a5 ≡ b5 → a6 ≡ b6 → a7 ≡ b7 →
    (bound_value a1 ∷ bound_value a2 ∷ bound_value a3 ∷ bound_value a4 ∷ bound_value a5 ∷ bound_value a6 ∷ bound_value a7 ∷ [])
    ≡ (bound_value b1 ∷ bound_value b2 ∷ bound_value b3 ∷ bound_value b4 ∷ bound_value b5 ∷ bound_value b6 ∷ bound_value b7 ∷ [])
seven e1 e2 e3 e4 e5 e6 e7 = λ i. bound_value (e1 i) ∷ bound_value (e2 i) ∷ bound_value (e3 i) ∷ bound_value (e4 i) ∷ bound_value (e5 i) ∷ bound_value (e6 i)
    ∷ bound_value (e7 i) ∷ []

pub nine_whole : (t1 t2 t3 : Text) (o4 o5 o6 o7 o8 o9 : Option ℤ) → (bound_value (Words t1) ∷ bound_value (Words t2) ∷ bound_value (Words t3)
    ∷ bound_value (or_null Int o4) ∷ bound_value (or_null Int o5) ∷ bound_value (or_null Int o6) ∷ bound_value (or_null Int o7) ∷ bound_value (or_null Int o8)
    ∷ bound_value (or_null Int o9) ∷ []) ≡ (Words t1 ∷ Words t2 ∷ Words t3 ∷ or_null Int o4 ∷ or_null Int o5 ∷ or_null Int o6 ∷ or_null Int o7
    ∷ or_null Int o8 ∷ or_null Int o9 ∷ [])
nine_whole t1 t2 t3 o4 o5 o6 o7 o8 o9 = λ i. Words t1 ∷ Words t2 ∷ Words t3 ∷ (whole_null o4).bound_is i ∷ (whole_null o5).bound_is i
    ∷ (whole_null o6).bound_is i ∷ (whole_null o7).bound_is i ∷ (whole_null o8).bound_is i ∷ (whole_null o9).bound_is i ∷ []

-- values that were added to others
pub added : {A E : Type 0} (r : Result A E) (old new more : List ValueRef) (cells : Row) → new ≡ (if is_ok r then old ++ more else old) → bound more ≡ cells →
    OnOk r (bound new ≡ bound old ++ cells)
added (Ok a) old new more cells is bounds = ap bound is ∙ map-append (λ (v : ValueRef). bound_value (owned v)) old more
    ∙ ap (λ (r : Row). bound old ++ r) bounds
added (Err e) old new more cells is bounds = tt

-- the values of a feature's row
pub row_bound : (name : Text) (e : Entry) (row : FeatureRow) → IsRowOf e row → values_of name row ≡ feature_cells (name, e.0) e.1
row_bound name e row is =
    (λ i. Words name ∷ Words (is.named i) ∷ Words (is.written.text_is i) ∷ or_null Int (option_map (λ (b : BoxValue). b.x0) (is.written.extent_is i))
    ∷ or_null Int (option_map (λ (b : BoxValue). b.y0) (is.written.extent_is i))
    ∷ or_null Int (option_map (λ (b : BoxValue). b.x1) (is.written.extent_is i)) ∷ or_null Int (option_map (λ (b : BoxValue). b.y1) (is.written.extent_is i))
    ∷ or_null Int (option_map (λ (s : ℤ × ℤ). s.0) (is.written.seconds_are i)) ∷ or_null Int (option_map (λ (s : ℤ × ℤ). s.1) (is.written.seconds_are i))
    ∷ [])

pub rows_bound : (name : Text) (es : List Entry) (rows : List FeatureRow) → AreRowsOf es rows → values_in name rows ≡ cells_of name es
rows_bound name [] [] are = refl
rows_bound name (e ∷ es) (row ∷ rows) are = (λ i. row_bound name e row are.0 i ++ rows_bound name es rows are.1 i)
rows_bound name [] (row ∷ rows) are = absurd are
rows_bound name (e ∷ es) [] are = absurd are

pub rows_fine : (es : List Entry) (rows : List FeatureRow) → AreRowsOf es rows → AllByRecursion (λ (e : Entry). IsFeature e.1) es × (length es ≡ length rows)
rows_fine [] [] are = (tt, refl)
rows_fine (e ∷ es) (row ∷ rows) are = let more = rows_fine es rows are.1 in ((are.0.fine, more.0), ap suc more.1)
rows_fine [] (row ∷ rows) are = absurd are
rows_fine (e ∷ es) [] are = absurd are
