-- What the query of the serials of all batches means.
use Rattle.std.proofs.Common.{[], ◌∷◌, codes, refl, arith}
use Rattle.sqlite_tied.specs.Compute.{everything}
use Rattle.streetmap_rows.proofs.Meaning.{Selection, IsSelect, SelectMeans, SelectNever}
use Rattle.streetmap_rows.proofs.Meaning.{select_means, select_never}
use Rattle.streetmap_rows.specs.Tables.{batches}
use Rattle.streetmap_tables.specs.Adoption.{serials_text}

abbrev pub selects_serials : Selection
selects_serials = record {
  text = serials_text;
  parameters = [];
  table = batches;
  shown = (codes "serial", 7) ∷ [];
  conditions = [];
  by = [];
}

pub select_serials_is : IsSelect selects_serials
unfolding everything
select_serials_is = record {
  says = (refl, refl, omega arith, refl);
  resolved = λ schema tree it. rw (it.named, it.listed, it.listed) refl;
  accepted = λ schema tree it. rw (it.low, it.by_tree) (refl, refl);
}

pub select_serials_means : SelectMeans selects_serials
select_serials_means = select_means selects_serials select_serials_is

pub select_serials_never : SelectNever selects_serials
select_serials_never = select_never selects_serials select_serials_is
