-- What the statements of a check mean, wherever our tables are.
use Rattle.std.proofs.Common.{[], ◌∷◌, codes, refl, arith}
use Rattle.sqlite_tied.specs.Compute.{everything}
use Rattle.streetmap_rows.proofs.Meaning.{Selection, IsSelect, SelectMeans, SelectNever, a_text}
use Rattle.streetmap_rows.proofs.Meaning.{given, where_equal, select_means, select_never}
use Rattle.streetmap_rows.specs.Tables.{meta, batches, features}
use Rattle.streetmap_checking.specs.Statements as text

-- ---- select_formats

abbrev pub selects_formats : Selection
selects_formats = record {
  text = text.select_formats;
  parameters = [];
  table = meta;
  shown = (codes "name", 1) ∷ (codes "value", 2) ∷ [];
  conditions = [];
  by = (codes "name", 1) ∷ [];
}

pub select_formats_is : IsSelect selects_formats
unfolding everything
select_formats_is = record {
  says = (refl, refl, omega arith, refl);
  resolved = λ schema tree it. rw (it.named, it.listed, it.listed, it.listed, it.listed) refl;
  accepted = λ schema tree it. rw (it.low, it.by_tree) (refl, refl);
}

pub select_formats_means : SelectMeans selects_formats
select_formats_means = select_means selects_formats select_formats_is

pub select_formats_never : SelectNever selects_formats
select_formats_never = select_never selects_formats select_formats_is

-- ---- select_features

abbrev pub selects_features : Selection
selects_features = record {
  text = text.select_features;
  parameters = a_text ∷ [];
  table = features;
  shown =
      (codes "id", 2) ∷ (codes "body", 3) ∷ (codes "x0", 4) ∷ (codes "y0", 5) ∷ (codes "x1", 6)
      ∷ (codes "y1", 7) ∷ (codes "s0", 8) ∷ (codes "s1", 9) ∷ [];
  conditions = where_equal (codes "collection", 1) (given 1) ∷ [];
  by = (codes "id", 2) ∷ [];
}

pub select_features_is : IsSelect selects_features
unfolding everything
select_features_is = record {
  says = (refl, refl, omega arith, refl);
  resolved = λ schema tree it. rw (it.named, it.listed, it.listed, it.listed, it.listed) refl;
  accepted = λ schema tree it. rw (it.low, it.by_tree) (refl, λ t. refl);
}

pub select_features_means : SelectMeans selects_features
select_features_means = select_means selects_features select_features_is

pub select_features_never : SelectNever selects_features
select_features_never = select_never selects_features select_features_is

-- ---- select_owners

abbrev pub selects_owners : Selection
selects_owners = record {
  text = text.select_owners;
  parameters = [];
  table = features;
  shown = (codes "collection", 1) ∷ [];
  conditions = [];
  by = (codes "collection", 1) ∷ [];
}

pub select_owners_is : IsSelect selects_owners
unfolding everything
select_owners_is = record {
  says = (refl, refl, omega arith, refl);
  resolved = λ schema tree it. rw (it.named, it.listed, it.listed, it.listed, it.listed) refl;
  accepted = λ schema tree it. rw (it.low, it.by_tree) (refl, refl);
}

pub select_owners_means : SelectMeans selects_owners
select_owners_means = select_means selects_owners select_owners_is

pub select_owners_never : SelectNever selects_owners
select_owners_never = select_never selects_owners select_owners_is

-- ---- select_batches

abbrev pub selects_batches : Selection
selects_batches = record {
  text = text.select_batches;
  parameters = [];
  table = batches;
  shown =
      (codes "key", 1) ∷ (codes "body", 2) ∷ (codes "opened", 3) ∷ (codes "inserted", 4)
      ∷ (codes "replaced", 5) ∷ (codes "deleted", 6) ∷ (codes "serial", 7) ∷ [];
  conditions = [];
  by = (codes "key", 1) ∷ [];
}

pub select_batches_is : IsSelect selects_batches
unfolding everything
select_batches_is = record {
  says = (refl, refl, omega arith, refl);
  resolved = λ schema tree it. rw (it.named, it.listed, it.listed, it.listed, it.listed) refl;
  accepted = λ schema tree it. rw (it.low, it.by_tree) (refl, refl);
}

pub select_batches_means : SelectMeans selects_batches
select_batches_means = select_means selects_batches select_batches_is

pub select_batches_never : SelectNever selects_batches
select_batches_never = select_never selects_batches select_batches_is
