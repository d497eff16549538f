-- What the terms of the statements of a page and of a run choose.
use Rattle.std.proofs.Common.{suc, ◌≡◌, ℕ, ℤ, ◌<ℤ◌, List, [], ◌∷◌, Bool, true, false, ◌&&◌, drop, Option, Some, None, option_map, Ordering, Less, Equal}
use Rattle.std.proofs.Common.{Greater, refl, sym, ap, ap₂, ◌∙◌, arith}
use Rattle.std.specs.Prelude.{int_le}
use Rattle.std.specs.Ordering.{is_le, is_ge, int_cmp, MatchOrdering}
use Rattle.std.specs.Cmp.{int_ranks}
use Rattle.std.proofs.lemmas.Int.{ints}
use Rattle.sqlite.specs.declared.types.Value.TheVariants.{Null, Int, Text as Words}
use Rattle.sqlite.specs.Order.{Row, column}
use Rattle.sqlite.specs.Values.{or_null}
use Rattle.sqlite.specs.Term.{Term, col, lit, op2}
use Rattle.sqlite_sql.specs.Ops.{binary, is_true}
use Rattle.sqlite_sql.specs.declared.ops.BinaryOp.TheVariants.{Coalesce, Compare}
use Rattle.sqlite_sql.specs.declared.ops.CompareOp.TheVariants.{Eq, Le, Ge}
use Rattle.sqlite_value.specs.declared.keys.Collation.TheVariants.{Binary}
use Rattle.sqlite_value.specs.Order.{value_cmp}
use Rattle.sqlite_value.proofs.OrderLemmas.{value_cmp-Int, value_cmp-Text}
use Rattle.streetmap_grid.specs.Values.{BoxValue, GeometryValue}
use Rattle.streetmap_grid.specs.Extent.{extent_of}
use Rattle.streetmap_moment.specs.IntervalValue.{IntervalValue}
use Rattle.streetmap_moment.specs.Meeting.{seconds_of, seconds_overlap, first_second, last_second}
use Rattle.streetmap_geojson.specs.FeatureValue.{FeatureValue}
use Rattle.streetmap_batch.specs.Text.{Text, text_cmp}
use Rattle.streetmap_ledger.specs.State.{State}
use Rattle.streetmap_ledger.specs.Pages.{passes, extent_overlaps, is_between}
use Rattle.streetmap_rows.specs.Holds.{same_text}
use Rattle.streetmap_rows.specs.Rows.{feature_at, feature_cells, extent_in, seconds_in}
use Rattle.streetmap_rows.specs.Holds.{KeyPair}
use Rattle.streetmap_rows.proofs.TextKeys.{truth_is, equal_texts, column_later}
use Rattle.streetmap_rows.proofs.Drafts.{equal_terms, at_most, at_least}
use Rattle.streetmap_reading.specs.Choices.{is_chosen}
use Rattle.streetmap_rows.proofs.OrderedRows.{keeps}
use Rattle.streetmap_reading.proofs.ChosenInOrder.{Chooses, ChoosesIn}

le_is : (a b : ℤ) → is_le (int_cmp a b) ≡ int_le a b
le_is a b = go (int_cmp a b) (int_ranks a b)
  where
    go : (o : Ordering) → MatchOrdering o (a <ℤ b) (a ≡ b) (b <ℤ a) → is_le o ≡ int_le a b
    go Less h = grind (arith, ints, h)
    go Equal h = grind (arith, ints, h)
    go Greater h = grind (arith, ints, h)

ge_is : (a b : ℤ) → is_ge (int_cmp a b) ≡ int_le b a
ge_is a b = go (int_cmp a b) (int_ranks a b)
  where
    go : (o : Ordering) → MatchOrdering o (a <ℤ b) (a ≡ b) (b <ℤ a) → is_ge o ≡ int_le b a
    go Less h = grind (arith, ints, h)
    go Equal h = grind (arith, ints, h)
    go Greater h = grind (arith, ints, h)

-- a comparison with NULL holds of nothing
abbrev le_if : Option ℤ → ℤ → Bool
le_if None b = false
le_if (Some a) b = int_le a b

abbrev ge_if : Option ℤ → ℤ → Bool
ge_if None b = false
ge_if (Some a) b = int_le b a

at_most_is : (o : Option ℤ) (b : ℤ) → is_true (binary (Compare Le Binary) (or_null Int o) (Int b)) ≡ le_if o b
unfolding binary
at_most_is None b = refl
at_most_is (Some a) b = truth_is (is_le (value_cmp (Int a) (Int b))) ∙ ap is_le (value_cmp-Int a b) ∙ le_is a b

at_least_is : (o : Option ℤ) (b : ℤ) → is_true (binary (Compare Ge Binary) (or_null Int o) (Int b)) ≡ ge_if o b
unfolding binary
at_least_is None b = refl
at_least_is (Some a) b = truth_is (is_ge (value_cmp (Int a) (Int b))) ∙ ap is_ge (value_cmp-Int a b) ∙ ge_is a b

from_text : (a b : Text) → is_true (binary (Compare Ge Binary) (Words a) (Words b)) ≡ is_ge (text_cmp a b)
unfolding binary
from_text a b = truth_is (is_ge (value_cmp (Words a) (Words b))) ∙ ap is_ge (value_cmp-Text a b)

to_text : (a b : Text) → is_true (binary (Compare Le Binary) (Words a) (Words b)) ≡ is_le (text_cmp a b)
unfolding binary
to_text a b = truth_is (is_le (value_cmp (Words a) (Words b))) ∙ ap is_le (value_cmp-Text a b)

and_true : (b : Bool) → (b && true) ≡ b
and_true true = refl
and_true false = refl

-- ---- the cells of a feature

abbrev west : FeatureValue → Option ℤ
west f = option_map (λ (b : BoxValue). b.x0) (extent_in f)

abbrev south : FeatureValue → Option ℤ
south f = option_map (λ (b : BoxValue). b.y0) (extent_in f)

abbrev east : FeatureValue → Option ℤ
east f = option_map (λ (b : BoxValue). b.x1) (extent_in f)

abbrev north : FeatureValue → Option ℤ
north f = option_map (λ (b : BoxValue). b.y1) (extent_in f)

abbrev start : FeatureValue → Option ℤ
start f = option_map (λ (s : ℤ × ℤ). s.0) (seconds_in f)

abbrev end : FeatureValue → Option ℤ
end f = option_map (λ (s : ℤ × ℤ). s.1) (seconds_in f)

abbrev pub box_params : BoxValue → Row → Row
box_params b more = Int b.x1 ∷ Int b.x0 ∷ Int b.y1 ∷ Int b.y0 ∷ more

abbrev pub time_params : IntervalValue → Row
time_params i = Int (last_second i.end) ∷ Int (first_second i.start) ∷ []

abbrev in_box : BoxValue → FeatureValue → Bool
in_box b f = le_if (west f) b.x1 && (ge_if (east f) b.x0 && (le_if (south f) b.y1 && (ge_if (north f) b.y0 && true)))

in_box_is : (b : BoxValue) (f : FeatureValue) → in_box b f ≡ passes extent_overlaps f.geometry (Some b)
unfolding extent_in
in_box_is b f = go f.geometry
  where
    go : (g : Option GeometryValue) → (le_if (option_map (λ (x : BoxValue). x.x0) (option_map extent_of g)) b.x1
        && (ge_if (option_map (λ (x : BoxValue). x.x1) (option_map extent_of g)) b.x0
        && (le_if (option_map (λ (x : BoxValue). x.y0) (option_map extent_of g)) b.y1 &&
        (ge_if (option_map (λ (x : BoxValue). x.y1) (option_map extent_of g)) b.y0 && true)))) ≡ passes extent_overlaps g (Some b)
    go None = refl
    go (Some g) = ap (λ t. int_le (extent_of g).x0 b.x1 && (int_le b.x0 (extent_of g).x1 && (int_le (extent_of g).y0 b.y1 && t)))
        (and_true (int_le b.y0 (extent_of g).y1))

abbrev in_time : IntervalValue → FeatureValue → Bool
in_time i f = le_if (start f) (last_second i.end) && (ge_if (end f) (first_second i.start) && true)

in_time_is : (i : IntervalValue) (f : FeatureValue) → in_time i f ≡ passes seconds_overlap f.time (Some i)
unfolding seconds_in
in_time_is i f = go f.time
  where
    go : (t : Option IntervalValue) → (le_if (option_map (λ (s : ℤ × ℤ). s.0) (option_map seconds_of t)) (last_second i.end)
        && (ge_if (option_map (λ (s : ℤ × ℤ). s.1) (option_map seconds_of t)) (first_second i.start) && true)) ≡ passes seconds_overlap t (Some i)
    go None = refl
    go (Some t) = ap (λ b. int_le (first_second t.start) (last_second i.end) && b) (and_true (int_le (first_second i.start) (last_second t.end)))

-- ---- the lists of terms

abbrev pub in_collection : Term
in_collection = equal_terms (col 1 1) (col 0 0)

-- the same, but no row is looked up by it
abbrev pub in_collection_in_turn : Term
in_collection_in_turn = equal_terms (op2 Coalesce (col 1 1) (lit Null)) (col 0 0)

abbrev pub box_terms : List Term → List Term
box_terms more = at_most (col 1 4) (col 0 1) ∷ at_least (col 1 6) (col 0 2) ∷ at_most (col 1 5) (col 0 3) ∷ at_least (col 1 7) (col 0 4) ∷ more

abbrev pub time_terms : ℕ → List Term
time_terms at = at_most (col 1 8) (col 0 at) ∷ at_least (col 1 9) (col 0 (suc at)) ∷ []

abbrev pub run_terms : List Term
run_terms = in_collection ∷ at_least (col 1 2) (col 0 1) ∷ at_most (col 1 2) (col 0 2) ∷ []

abbrev pub run_params : Text → Text → Text → Row
run_params name first last = Words name ∷ Words first ∷ Words last ∷ []

module _ (r : Row) (p : KeyPair) (f : FeatureValue) (cells : drop 1 r ≡ feature_cells p f) where
  one : column r 1 ≡ Words p.0
  one = column_later r 0 ∙ ap (λ x. column x 0) cells

  two : f.id ≡ p.1 → column r 2 ≡ Words f.id
  two named = column_later r 1 ∙ ap (λ x. column x 1) cells ∙ ap Words (sym named)

  four : column r 4 ≡ or_null Int (west f)
  four = column_later r 3 ∙ ap (λ x. column x 3) cells

  five : column r 5 ≡ or_null Int (south f)
  five = column_later r 4 ∙ ap (λ x. column x 4) cells

  six : column r 6 ≡ or_null Int (east f)
  six = column_later r 5 ∙ ap (λ x. column x 5) cells

  seven : column r 7 ≡ or_null Int (north f)
  seven = column_later r 6 ∙ ap (λ x. column x 6) cells

  eight : column r 8 ≡ or_null Int (start f)
  eight = column_later r 7 ∙ ap (λ x. column x 7) cells

  nine : column r 9 ≡ or_null Int (end f)
  nine = column_later r 8 ∙ ap (λ x. column x 8) cells

  -- a comparison of a column
  named_is : (name : Text) → is_true (binary (Compare Eq Binary) (column r 1) (Words name)) ≡ same_text p.0 name
  named_is name = ap (λ v. is_true (binary (Compare Eq Binary) v (Words name))) one ∙ equal_texts p.0 name

  most : (at : ℕ) (o : Option ℤ) (b : ℤ) → column r at ≡ or_null Int o → is_true (binary (Compare Le Binary) (column r at) (Int b)) ≡ le_if o b
  most at o b is = ap (λ v. is_true (binary (Compare Le Binary) v (Int b))) is ∙ at_most_is o b

  least : (at : ℕ) (o : Option ℤ) (b : ℤ) → column r at ≡ or_null Int o → is_true (binary (Compare Ge Binary) (column r at) (Int b)) ≡ ge_if o b
  least at o b is = ap (λ v. is_true (binary (Compare Ge Binary) v (Int b))) is ∙ at_least_is o b

  all_rows : (name : Text) → keeps (in_collection ∷ []) (Words name ∷ []) r ≡ (same_text p.0 name && is_chosen None None f)
  all_rows name = ap (λ b. b && true) (named_is name)

  rows_in_turn : (name : Text) → keeps (in_collection_in_turn ∷ []) (Words name ∷ []) r ≡ (same_text p.0 name && is_chosen None None f)
  unfolding binary
  rows_in_turn name = ap (λ b. b && true) (ap (λ v. is_true (binary (Compare Eq Binary) (binary Coalesce v Null) (Words name))) one ∙ equal_texts p.0 name)

  box_rows : (name : Text) (b : BoxValue) → keeps (in_collection ∷ box_terms []) (Words name ∷ box_params b []) r
      ≡ (same_text p.0 name && is_chosen (Some b) None f)
  box_rows name b =
      (λ i. named_is name i && (most 4 (west f) b.x1 four i && (least 6 (east f) b.x0 six i
      && (most 5 (south f) b.y1 five i && (least 7 (north f) b.y0 seven i && true)))))
      ∙ ap (λ t. same_text p.0 name && t) (in_box_is b f ∙ sym (and_true (passes extent_overlaps f.geometry (Some b))))

  time_rows : (name : Text) (i : IntervalValue) → keeps (in_collection ∷ time_terms 1) (Words name ∷ time_params i) r
      ≡ (same_text p.0 name && is_chosen None (Some i) f)
  time_rows name i =
      (λ j. named_is name j && (most 8 (start f) (last_second i.end) eight j && (least 9 (end f) (first_second i.start) nine j && true)))
      ∙ ap (λ t. same_text p.0 name && t) (in_time_is i f)

  both_rows : (name : Text) (b : BoxValue) (i : IntervalValue) → keeps (in_collection ∷ box_terms (time_terms 5)) (Words name ∷ box_params b (time_params i)) r
      ≡ (same_text p.0 name && is_chosen (Some b) (Some i) f)
  both_rows name b i =
      (λ j. named_is name j && (most 4 (west f) b.x1 four j && (least 6 (east f) b.x0 six j && (most 5 (south f) b.y1 five j && (least 7 (north f) b.y0 seven j
      && (most 8 (start f) (last_second i.end) eight j && (least 9 (end f) (first_second i.start) nine j && true)))))))
      ∙ ap (λ t. same_text p.0 name && t) (grouped (le_if (west f) b.x1) (ge_if (east f) b.x0) (le_if (south f) b.y1) (ge_if (north f) b.y0) (in_time i f)
      ∙ ap₂ (λ x y. x && y) (in_box_is b f) (in_time_is i f))
    where
      grouped : (v w x y z : Bool) → (v && (w && (x && (y && z)))) ≡ ((v && (w && (x && (y && true)))) && z)
      grouped true true true true z = refl
      grouped true true true false z = refl
      grouped true true false y z = refl
      grouped true false x y z = refl
      grouped false w x y z = refl

  run_rows : (name first last : Text) → f.id ≡ p.1 → keeps run_terms (run_params name first last) r ≡ (same_text p.0 name && is_between first last f)
  run_rows name first last named =
      let low : is_true (binary (Compare Ge Binary) (column r 2) (Words first)) ≡ is_ge (text_cmp f.id first) =
      ap (λ v. is_true (binary (Compare Ge Binary) v (Words first))) (two named) ∙ from_text f.id first in
      let high : is_true (binary (Compare Le Binary) (column r 2) (Words last)) ≡ is_le (text_cmp f.id last) =
      ap (λ v. is_true (binary (Compare Le Binary) v (Words last))) (two named) ∙ to_text f.id last in
      (λ i. named_is name i && (low i && (high i && true))) ∙ ap (λ t. same_text p.0 name && (is_ge (text_cmp f.id first) && t))
      (and_true (is_le (text_cmp f.id last)))

pub all_chooses : (name : Text) → Chooses (in_collection ∷ []) (Words name ∷ []) name (is_chosen None None)
all_chooses name r p f cells = all_rows r p f cells name

pub chooses_in_turn : (name : Text) → Chooses (in_collection_in_turn ∷ []) (Words name ∷ []) name (is_chosen None None)
chooses_in_turn name r p f cells = rows_in_turn r p f cells name

pub box_chooses : (name : Text) (b : BoxValue) → Chooses (in_collection ∷ box_terms []) (Words name ∷ box_params b []) name (is_chosen (Some b) None)
box_chooses name b r p f cells = box_rows r p f cells name b

pub time_chooses : (name : Text) (i : IntervalValue) → Chooses (in_collection ∷ time_terms 1) (Words name ∷ time_params i) name (is_chosen None (Some i))
time_chooses name i r p f cells = time_rows r p f cells name i

pub both_chooses : (name : Text) (b : BoxValue) (i : IntervalValue) → Chooses (in_collection ∷ box_terms (time_terms 5))
    (Words name ∷ box_params b (time_params i)) name (is_chosen (Some b) (Some i))
both_chooses name b i r p f cells = both_rows r p f cells name b i

-- a feature of the state is under its own id
pub run_chooses : (s : State) → ((p : KeyPair) (f : FeatureValue) → feature_at s p ≡ Some f → f.id ≡ p.1) → (name first last : Text) →
    ChoosesIn s run_terms (run_params name first last) name (is_between first last)
run_chooses s placed name first last r p f cells is = run_rows r p f cells name first last (placed p f is)
