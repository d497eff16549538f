-- What the query of the rows of all features means, in format 1.
use Rattle.std.proofs.Common.{ℕ, List, [], ◌∷◌, codes, refl, arith}
use Rattle.sqlite.specs.Term.{Term, col}
use Rattle.sqlite_tied.specs.Compute.{everything}
use Rattle.streetmap_rows.proofs.Meaning.{Selection, IsSelect, SelectMeans, SelectNever}
use Rattle.streetmap_rows.proofs.Meaning.{select_means, select_never}
use Rattle.streetmap_tables.specs.Old.{old_features}

abbrev pub rows_text : List ℕ
rows_text = codes "SELECT collection, id, body FROM streetmap_features"

abbrev pub cells : List Term
cells = col 1 1 ∷ col 1 2 ∷ col 1 3 ∷ []

abbrev pub selects_rows : Selection
selects_rows = record {
  text = rows_text;
  parameters = [];
  table = old_features;
  shown = (codes "collection", 1) ∷ (codes "id", 2) ∷ (codes "body", 3) ∷ [];
  conditions = [];
  by = [];
}

pub select_rows_is : IsSelect selects_rows
unfolding everything
select_rows_is = record {
  says = (refl, refl, omega arith, refl);
  resolved = λ schema tree it. rw (it.named, it.listed, it.listed) refl;
  accepted = λ schema tree it. rw (it.low, it.by_tree) (refl, refl);
}

pub select_rows_means : SelectMeans selects_rows
select_rows_means = select_means selects_rows select_rows_is

pub select_rows_never : SelectNever selects_rows
select_rows_never = select_never selects_rows select_rows_is
