-- What the statements mean, wherever our tables are.
use Rattle.std.proofs.Common.{ℕ, List, [], ◌∷◌, codes, refl, arith}
use Rattle.sqlite.specs.Term.{Term, col}
use Rattle.sqlite_tied.specs.Compute.{everything}
use Rattle.streetmap_rows.proofs.Meaning.{Column, Part, Selection, IsSelect, SelectMeans}
use Rattle.streetmap_rows.proofs.Meaning.{SelectNever, a_number, given, where_equal, where_above}
use Rattle.streetmap_rows.proofs.Meaning.{meant, select_means, select_never}
use Rattle.streetmap_rows.specs.Tables.{batches}
use Rattle.streetmap_reading.specs.BatchStatements as text

-- all columns are shown
abbrev all_columns : List Column
all_columns =
    (codes "key", 1) ∷ (codes "body", 2) ∷ (codes "opened", 3) ∷ (codes "inserted", 4)
    ∷ (codes "replaced", 5) ∷ (codes "deleted", 6) ∷ (codes "serial", 7) ∷ []

abbrev pub columns : List Term
columns = col 1 1 ∷ col 1 2 ∷ col 1 3 ∷ col 1 4 ∷ col 1 5 ∷ col 1 6 ∷ col 1 7 ∷ []

abbrev pub column_names : List (List ℕ)
column_names =
    codes "key" ∷ codes "body" ∷ codes "opened" ∷ codes "inserted" ∷ codes "replaced"
    ∷ codes "deleted" ∷ codes "serial" ∷ []

-- ---- select_serial

abbrev with_serial : List Part
with_serial = where_equal (codes "serial", 7) (given 1) ∷ []

-- the serial is the parameter
abbrev pub by_serial : List Term
by_serial = meant with_serial

abbrev selects_serial : Selection
selects_serial = record {
  text = text.select_serial;
  parameters = a_number ∷ [];
  table = batches;
  shown = all_columns;
  conditions = with_serial;
  by = [];
}

select_serial_is : IsSelect selects_serial
unfolding everything
select_serial_is = record {
  says = (refl, refl, omega arith, refl);
  resolved = λ schema tree it. rw (it.named, it.listed, it.listed, it.listed) refl;
  accepted = λ schema tree it. rw (it.low, it.by_tree) (refl, λ z. refl);
}

pub select_serial_means : SelectMeans selects_serial
select_serial_means = select_means selects_serial select_serial_is

pub select_serial_never : SelectNever selects_serial
select_serial_never = select_never selects_serial select_serial_is

-- ---- select_behind

abbrev past_serial : List Part
past_serial = where_above (codes "serial", 7) (given 1) ∷ []

-- the serial is after the parameter
abbrev pub after_serial : List Term
after_serial = meant past_serial

abbrev selects_after : Selection
selects_after = record {
  text = text.select_after;
  parameters = a_number ∷ [];
  table = batches;
  shown = all_columns;
  conditions = past_serial;
  by = (codes "serial", 7) ∷ [];
}

select_after_is : IsSelect selects_after
unfolding everything
select_after_is = record {
  says = (refl, refl, omega arith, refl);
  resolved = λ schema tree it. rw (it.named, it.listed, it.listed, it.listed, it.listed) refl;
  accepted = λ schema tree it. rw (it.low, it.by_tree) (refl, λ z. refl);
}

pub select_after_means : SelectMeans selects_after
select_after_means = select_means selects_after select_after_is

pub select_after_never : SelectNever selects_after
select_after_never = select_never selects_after select_after_is
