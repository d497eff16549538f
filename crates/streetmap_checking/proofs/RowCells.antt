-- Rows by their cells.
use Rattle.std.proofs.Common.{◌≡◌, ℕ, [], ◌∷◌, length, Option, None, Some, refl, sym, ap, ◌∙◌, arith, pos}
use Rattle.sqlite.specs.declared.types.Value.TheVariants.{Int, Text as Words}
use Rattle.sqlite.specs.Order.{Row, column}
use Rattle.sqlite.specs.Values.{or_null}
use Rattle.streetmap_geojson.specs.FeatureValue.{FeatureValue}
use Rattle.streetmap_batch.specs.Text.{Text}
use Rattle.streetmap_ledger.specs.State.{AcceptedBatch}
use Rattle.streetmap_rows.specs.Rows.{feature_text, extent_in, seconds_in, batch_cells}
use Rattle.streetmap_checking.specs.Good.{HasTextCells, HasExtentCells, HasSeconds, feature_view, CollectionHead, head_cells}

-- a row is its cells
pub one_cell : (r : Row) → length r ≡ 1 → r ≡ column r 0 ∷ []
one_cell (a ∷ []) h = refl
one_cell [] h = absurd (omega (arith, h))
one_cell (a ∷ b ∷ r) h = absurd (omega (arith, h))

two_cells : (r : Row) → length r ≡ 2 → r ≡ column r 0 ∷ column r 1 ∷ []
two_cells [] h = absurd (omega (arith, h))
two_cells (a ∷ r) h = ap (λ l. a ∷ l) (one_cell r (omega (arith, h)))

pub three_cells : (r : Row) → length r ≡ 3 → r ≡ column r 0 ∷ column r 1 ∷ column r 2 ∷ []
three_cells [] h = absurd (omega (arith, h))
three_cells (a ∷ r) h = ap (λ l. a ∷ l) (two_cells r (omega (arith, h)))

four_cells : (r : Row) → length r ≡ 4 → r ≡ column r 0 ∷ column r 1 ∷ column r 2 ∷ column r 3 ∷ []
four_cells [] h = absurd (omega (arith, h))
four_cells (a ∷ r) h = ap (λ l. a ∷ l) (three_cells r (omega (arith, h)))

five_cells : (r : Row) → length r ≡ 5 → r ≡ column r 0 ∷ column r 1 ∷ column r 2 ∷ column r 3 ∷ column r 4 ∷ []
five_cells [] h = absurd (omega (arith, h))
five_cells (a ∷ r) h = ap (λ l. a ∷ l) (four_cells r (omega (arith, h)))

six_cells : (r : Row) → length r ≡ 6 → r ≡ column r 0 ∷ column r 1 ∷ column r 2 ∷ column r 3 ∷ column r 4 ∷ column r 5 ∷ []
six_cells [] h = absurd (omega (arith, h))
six_cells (a ∷ r) h = ap (λ l. a ∷ l) (five_cells r (omega (arith, h)))

pub seven_cells : (r : Row) → length r ≡ 7 → r ≡ column r 0 ∷ column r 1 ∷ column r 2 ∷ column r 3 ∷ column r 4 ∷ column r 5 ∷ column r 6 ∷ []
seven_cells [] h = absurd (omega (arith, h))
seven_cells (a ∷ r) h = ap (λ l. a ∷ l) (six_cells r (omega (arith, h)))

pub eight_cells : (r : Row) → length r ≡ 8 → r ≡ column r 0 ∷ column r 1 ∷ column r 2 ∷ column r 3 ∷ column r 4 ∷ column r 5 ∷ column r 6 ∷ column r 7 ∷ []
eight_cells [] h = absurd (omega (arith, h))
eight_cells (a ∷ r) h = ap (λ l. a ∷ l) (seven_cells r (omega (arith, h)))

-- ---- the row of a feature

abbrev pub HasCells : Text → FeatureValue → Row → Type 0
HasCells body f row = HasTextCells f.id body row × HasExtentCells (extent_in f) row × HasSeconds (seconds_in f) row

pub feature_row : (body : Text) (f : FeatureValue) (row : Row) → body ≡ feature_text f → length row ≡ 8 → HasCells body f row → row ≡ feature_view f.id f
feature_row body f row text eight h = eight_cells row eight ∙ (λ i. h.0.0 i ∷ (h.0.1 ∙ ap Words text) i ∷ h.1.0 i ∷ h.1.1 i ∷ h.1.2 i ∷ h.1.3 i ∷ h.2.0 i
    ∷ h.2.1 i ∷ [])

pub row_cells : (body : Text) (f : FeatureValue) (row : Row) → body ≡ feature_text f → row ≡ feature_view f.id f → HasCells body f row
row_cells body f row text is =
    let at : (n : ℕ) → column row n ≡ column (feature_view f.id f) n = λ n. ap (λ (r : Row). column r n) is in
    ((at 0, at 1 ∙ ap Words (sym text)), (at 2, at 3, at 4, at 5), (at 6, at 7))

pub row_body : (id : Text) (f : FeatureValue) (row : Row) (body : Text) → row ≡ feature_view id f → column row 1 ≡ Words body → body ≡ feature_text f
row_body id f row body is at = let same : Words body ≡ Words (feature_text f) = sym at ∙ ap (λ (r : Row). column r 1) is in cc

pub id_of_cells : (p q : Text) (f g : FeatureValue) → feature_view p f ≡ feature_view q g → p ≡ q
id_of_cells p q f g is = let same : Words p ≡ Words q = ap (λ (r : Row). column r 0) is in cc

-- ---- the row of a collection

pub name_of_cells : (p q : Text) (g h : CollectionHead) → head_cells p g ≡ head_cells q h → p ≡ q
name_of_cells p q g h is = let same : Words p ≡ Words q = ap (λ (r : Row). column r 0) is in cc

or_null_is : (s t : Option Text) → or_null Words s ≡ or_null Words t → s ≡ t
or_null_is None None e = refl
or_null_is None (Some t) e = absurd (cc)
or_null_is (Some s) None e = absurd (cc)
or_null_is (Some s) (Some t) e = let same : Words s ≡ Words t = e in cc

pub time_of_cells : (p q : Text) (g h : CollectionHead) → head_cells p g ≡ head_cells q h → g.time ≡ h.time
time_of_cells p q g h is = or_null_is g.time h.time (ap (λ (r : Row). column r 2) is)

pub head_row : (name title : Text) (time : Option Text) (row : Row) → length row ≡ 3 → column row 0 ≡ Words name → column row 1 ≡ Words title → column row 2
    ≡ or_null Words time → row ≡ head_cells name (record { title = title; time = time })
head_row name title time row three p q r = three_cells row three ∙ (λ i. p i ∷ q i ∷ r i ∷ [])

-- ---- the row of a batch

pub key_of_cells : (p q : Text) (j k : AcceptedBatch) → batch_cells p j ≡ batch_cells q k → p ≡ q
key_of_cells p q j k is = let same : Words p ≡ Words q = ap (λ (r : Row). column r 0) is in cc

pub serial_of_cells : (p q : Text) (j k : AcceptedBatch) → batch_cells p j ≡ batch_cells q k → j.serial ≡ k.serial
serial_of_cells p q j k is = let same : Int (pos j.serial) ≡ Int (pos k.serial) = ap (λ (r : Row). column r 6) is in cc
