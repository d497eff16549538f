-- What the statements over all features of a collection mean, wherever our tables are.
use Rattle.std.proofs.Common.{◌≡◌, ℕ, ◌^◌, true, false, List, [], ◌∷◌, codes, refl, arith}
use Rattle.std.specs.Prelude.{nat_lt, nat_le}
use Rattle.std.proofs.lemmas.Bool.{lt-ltb, leb-false}
use Rattle.sqlite_tied.specs.Compute.{everything}
use Rattle.streetmap_rows.proofs.Meaning.{Column, Part, Selection, IsSelect, SelectMeans}
use Rattle.streetmap_rows.proofs.Meaning.{SelectNever, where_equal_in_turn}
use Rattle.streetmap_rows.proofs.Meaning.{a_text, a_number, given, where_equal, where_at_least}
use Rattle.streetmap_rows.proofs.Meaning.{where_at_most, select_means, select_never}
use Rattle.streetmap_rows.specs.Tables.{features}
use Rattle.streetmap_reading.specs.Statements as text

abbrev in_collection : List Part
in_collection = where_equal (codes "collection", 1) (given 1) ∷ []

abbrev in_turn : List Part
in_turn = where_equal_in_turn (codes "collection", 1) (given 1) ∷ []

abbrev extent_columns : List Column
extent_columns = (codes "x0", 4) ∷ (codes "y0", 5) ∷ (codes "x1", 6) ∷ (codes "y1", 7) ∷ []

-- a stored table has rowids, and one that a statement computes has none
pub is_stored : (tree : ℕ) → nat_le (2 ^ 31) tree ≡ false → nat_lt tree (2 ^ 31) ≡ true
is_stored tree low = lt-ltb tree (2 ^ 31) (leb-false (2 ^ 31) tree low)

-- ---- select_extents, and select_extents_in_turn

abbrev selects_extents : Selection
selects_extents = record {
  text = text.select_extents;
  parameters = a_text ∷ [];
  table = features;
  shown = extent_columns;
  conditions = in_collection;
  by = (codes "id", 2) ∷ [];
}

select_extents_is : IsSelect selects_extents
unfolding everything
select_extents_is = record {
  says = (refl, refl, omega arith, refl);
  resolved = λ schema tree it. rw (it.named, it.listed, it.listed, it.listed, it.listed) refl;
  accepted = λ schema tree it. rw (it.low, it.by_tree) (refl, λ t. refl);
}

pub select_extents_means : SelectMeans selects_extents
select_extents_means = select_means selects_extents select_extents_is

pub select_extents_never : SelectNever selects_extents
select_extents_never = select_never selects_extents select_extents_is

abbrev selects_extents_in_turn : Selection
selects_extents_in_turn = record {
  text = text.select_extents_in_turn;
  parameters = a_text ∷ [];
  table = features;
  shown = extent_columns;
  conditions = in_turn;
  by = [];
}

select_extents_in_turn_is : IsSelect selects_extents_in_turn
unfolding everything
select_extents_in_turn_is = record {
  says = (refl, refl, omega arith, refl);
  resolved = λ schema tree it. rw (it.named, it.listed, it.listed, it.listed) refl;
  accepted = λ schema tree it. rw (it.low, it.by_tree) (refl, λ t. refl);
}

pub select_extents_in_turn_means : SelectMeans selects_extents_in_turn
select_extents_in_turn_means = select_means selects_extents_in_turn select_extents_in_turn_is

pub select_extents_in_turn_never : SelectNever selects_extents_in_turn
select_extents_in_turn_never = select_never selects_extents_in_turn select_extents_in_turn_is

-- ---- select_outlines, and select_outlines_in_turn

abbrev outline_columns : List Column
outline_columns =
    (codes "id", 2) ∷ (codes "x0", 4) ∷ (codes "y0", 5) ∷ (codes "x1", 6) ∷ (codes "y1", 7)
    ∷ (codes "s0", 8) ∷ (codes "s1", 9) ∷ (codes "rowid", 0) ∷ []

abbrev selects_outlines : Selection
selects_outlines = record {
  text = text.select_outlines;
  parameters = a_text ∷ [];
  table = features;
  shown = outline_columns;
  conditions = in_collection;
  by = (codes "id", 2) ∷ [];
}

select_outlines_is : IsSelect selects_outlines
unfolding everything
select_outlines_is = record {
  says = (refl, refl, omega arith, refl);
  resolved = λ schema tree it.
      rw (it.named, it.listed, is_stored tree it.low, it.listed, it.listed, it.listed) refl;
  accepted = λ schema tree it. rw (it.low, it.by_tree) (refl, λ t. refl);
}

pub select_outlines_means : SelectMeans selects_outlines
select_outlines_means = select_means selects_outlines select_outlines_is

pub select_outlines_never : SelectNever selects_outlines
select_outlines_never = select_never selects_outlines select_outlines_is

abbrev selects_in_turn : Selection
selects_in_turn = record {
  text = text.select_outlines_in_turn;
  parameters = a_text ∷ [];
  table = features;
  shown = outline_columns;
  conditions = in_turn;
  by = [];
}

select_in_turn_is : IsSelect selects_in_turn
unfolding everything
select_in_turn_is = record {
  says = (refl, refl, omega arith, refl);
  resolved = λ schema tree it.
      rw (it.named, it.listed, is_stored tree it.low, it.listed, it.listed) refl;
  accepted = λ schema tree it. rw (it.low, it.by_tree) (refl, λ t. refl);
}

pub select_in_turn_means : SelectMeans selects_in_turn
select_in_turn_means = select_means selects_in_turn select_in_turn_is

pub select_in_turn_never : SelectNever selects_in_turn
select_in_turn_never = select_never selects_in_turn select_in_turn_is

-- ---- select_run

abbrev selects_run : Selection
selects_run = record {
  text = text.select_run;
  parameters = a_text ∷ a_text ∷ a_text ∷ [];
  table = features;
  shown = (codes "body", 3) ∷ [];
  conditions =
      where_equal (codes "collection", 1) (given 1) ∷ where_at_least (codes "id", 2) (given 2)
      ∷ where_at_most (codes "id", 2) (given 3) ∷ [];
  by = (codes "id", 2) ∷ [];
}

select_run_is : IsSelect selects_run
unfolding everything
select_run_is = record {
  says = (refl, refl, omega arith, refl);
  resolved = λ schema tree it. rw (it.named, it.listed, it.listed, it.listed, it.listed) refl;
  accepted = λ schema tree it. rw (it.low, it.by_tree) (refl, λ t1 t2 t3. refl);
}

pub select_run_means : SelectMeans selects_run
select_run_means = select_means selects_run select_run_is

pub select_run_never : SelectNever selects_run
select_run_never = select_never selects_run select_run_is

-- ---- select_text

abbrev selects_text : Selection
selects_text = record {
  text = text.select_text;
  parameters = a_text ∷ a_text ∷ [];
  table = features;
  shown = (codes "body", 3) ∷ (codes "s0", 8) ∷ [];
  conditions =
      where_equal (codes "collection", 1) (given 1) ∷ where_equal (codes "id", 2) (given 2) ∷ [];
  by = [];
}

select_text_is : IsSelect selects_text
unfolding everything
select_text_is = record {
  says = (refl, refl, omega arith, refl);
  resolved = λ schema tree it. rw (it.named, it.listed, it.listed, it.listed) refl;
  accepted = λ schema tree it. rw (it.low, it.by_tree) (refl, λ t1 t2. refl);
}

pub select_text_means : SelectMeans selects_text
select_text_means = select_means selects_text select_text_is

pub select_text_never : SelectNever selects_text
select_text_never = select_never selects_text select_text_is

-- ---- select_text_at

abbrev selects_text_at : Selection
selects_text_at = record {
  text = text.select_text_at;
  parameters = a_text ∷ a_text ∷ a_number ∷ [];
  table = features;
  shown = (codes "body", 3) ∷ (codes "s0", 8) ∷ [];
  conditions =
      where_equal (codes "rowid", 0) (given 3) ∷ where_equal (codes "collection", 1) (given 1)
      ∷ where_equal (codes "id", 2) (given 2) ∷ [];
  by = [];
}

select_text_at_is : IsSelect selects_text_at
unfolding everything
select_text_at_is = record {
  says = (refl, refl, omega arith, refl);
  resolved = λ schema tree it.
      rw (it.named, it.listed, is_stored tree it.low, it.listed, it.listed) refl;
  accepted = λ schema tree it. rw (it.low, it.by_tree) (refl, λ t1 t2 z. refl);
}

pub select_text_at_means : SelectMeans selects_text_at
select_text_at_means = select_means selects_text_at select_text_at_is

pub select_text_at_never : SelectNever selects_text_at
select_text_at_never = select_never selects_text_at select_text_at_is
