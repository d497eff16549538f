-- What our statements mean, wherever our tables are.
use Rattle.std.proofs.Common.{◌≡◌, ℕ, ◌+◌, List, [], ◌∷◌, codes, Ok, refl, Some, None, true, arith}
use Rattle.std.proofs.Common.{slice_get}
use Rattle.sqlite.specs.declared.types.Value.TheVariants.{Text as Words}
use Rattle.sqlite.specs.declared.error.Error.{Error}
use Rattle.sqlite.specs.Effect.{RefusesQuery}
use Rattle.sqlite.specs.Term.{Term, col}
use Rattle.sqlite.specs.Schema.{Schema}
use Rattle.sqlite.specs.Command.TheVariants.{Delete}
use Rattle.sqlite_ast.specs.declared.Statement.{Statement}
use Rattle.sqlite_ast.specs.declared.Statement.TheVariants as written
use Rattle.sqlite_draft.specs.declared.query.Draft.{Draft}
use Rattle.sqlite_trees.specs.Tree.{Trees}
use Rattle.sqlite_typing.specs.Types.{accepts_program}
use Rattle.sqlite_resolve.specs.Compile.{first}
use Rattle.sqlite_resolve.specs.Write.{deleted}
use Rattle.sqlite_tied.specs.Compute.{everything}
use Rattle.streetmap_batch.specs.Text.{Text}
use Rattle.streetmap_rows.specs.Queries.{over, program}
use Rattle.streetmap_rows.proofs.Drafts.{equal_terms, draft}
use Rattle.streetmap_rows.proofs.NamedTables.{IsFound}
use Rattle.streetmap_rows.proofs.Meaning.{Part, given, given_from, quoted, where_equal}
use Rattle.streetmap_rows.proofs.Meaning.{where_at_most, where_at_least, test_of, a_text, a_number}
use Rattle.streetmap_rows.proofs.Meaning.{IsRead, reads, none_refuses, Insertion, IsInsert}
use Rattle.streetmap_rows.proofs.Meaning.{InsertMeans, insert_means, terms_of, Selection, IsSelect}
use Rattle.streetmap_rows.proofs.Meaning.{SelectMeans, SelectNever, select_means, select_never}
use Rattle.streetmap_rows.proofs.Resolving.{Means, means, delete_planned, program_is}
use Rattle.streetmap_rows.specs.Tables.{collections, meta, batches, features, features_name}
use Rattle.streetmap_rows.specs.Statements as text

-- the first columns are the parameters
abbrev pub both : List Term
both = equal_terms (col 1 1) (col 0 0) ∷ equal_terms (col 1 2) (col 0 1) ∷ []

abbrev pub one : List Term
one = equal_terms (col 1 1) (col 0 0) ∷ []

-- ---- insert_collection

abbrev inserts_collection : Insertion
inserts_collection = record {
  text = text.insert_collection;
  count = 3;
  table = collections;
  columns = codes "id" ∷ codes "title" ∷ codes "time" ∷ [];
  rows = given_from 1 3 ∷ [];
}

insert_collection_is : IsInsert inserts_collection
unfolding everything
insert_collection_is = record {
  says = (refl, refl, omega arith, refl);
  unstamped = λ tree. refl;
  filled = λ schema tree. refl;
}

abbrev pub insert_collection_terms : List Term
insert_collection_terms = terms_of inserts_collection

pub insert_collection_means : InsertMeans inserts_collection
insert_collection_means = insert_means inserts_collection insert_collection_is

-- ---- insert_feature

abbrev inserts_feature : Insertion
inserts_feature = record {
  text = text.insert_feature;
  count = 9;
  table = features;
  columns =
      codes "collection" ∷ codes "id" ∷ codes "body" ∷ codes "x0" ∷ codes "y0" ∷ codes "x1"
      ∷ codes "y1" ∷ codes "s0" ∷ codes "s1" ∷ [];
  rows = given_from 1 9 ∷ [];
}

insert_feature_is : IsInsert inserts_feature
unfolding everything
insert_feature_is = record {
  says = (refl, refl, omega arith, refl);
  unstamped = λ tree. refl;
  filled = λ schema tree. refl;
}

abbrev pub insert_feature_terms : List Term
insert_feature_terms = terms_of inserts_feature

pub insert_feature_means : InsertMeans inserts_feature
insert_feature_means = insert_means inserts_feature insert_feature_is

-- ---- insert_features

abbrev inserts_features : Insertion
inserts_features = record {
  text = text.insert_features;
  count = 225;
  table = features;
  columns =
      codes "collection" ∷ codes "id" ∷ codes "body" ∷ codes "x0" ∷ codes "y0" ∷ codes "x1"
      ∷ codes "y1" ∷ codes "s0" ∷ codes "s1" ∷ [];
  rows =
      given_from 1 9 ∷ given_from 10 9 ∷ given_from 19 9 ∷ given_from 28 9
      ∷ given_from 37 9 ∷ given_from 46 9 ∷ given_from 55 9 ∷ given_from 64 9
      ∷ given_from 73 9 ∷ given_from 82 9 ∷ given_from 91 9 ∷ given_from 100 9
      ∷ given_from 109 9 ∷ given_from 118 9 ∷ given_from 127 9 ∷ given_from 136 9
      ∷ given_from 145 9 ∷ given_from 154 9 ∷ given_from 163 9 ∷ given_from 172 9
      ∷ given_from 181 9 ∷ given_from 190 9 ∷ given_from 199 9 ∷ given_from 208 9
      ∷ given_from 217 9 ∷ [];
}

insert_features_is : IsInsert inserts_features
unfolding everything
insert_features_is = record {
  says = (refl, refl, omega arith, refl);
  unstamped = λ tree. refl;
  filled = λ schema tree. refl;
}

abbrev pub insert_features_terms : List Term
insert_features_terms = terms_of inserts_features

pub insert_features_means : InsertMeans inserts_features
insert_features_means = insert_means inserts_features insert_features_is

-- ---- insert_batch

abbrev inserts_batch : Insertion
inserts_batch = record {
  text = text.insert_batch;
  count = 7;
  table = batches;
  columns =
      codes "key" ∷ codes "body" ∷ codes "opened" ∷ codes "inserted" ∷ codes "replaced"
      ∷ codes "deleted" ∷ codes "serial" ∷ [];
  rows = given_from 1 7 ∷ [];
}

insert_batch_is : IsInsert inserts_batch
unfolding everything
insert_batch_is = record {
  says = (refl, refl, omega arith, refl);
  unstamped = λ tree. refl;
  filled = λ schema tree. refl;
}

abbrev pub insert_batch_terms : List Term
insert_batch_terms = terms_of inserts_batch

pub insert_batch_means : InsertMeans inserts_batch
insert_batch_means = insert_means inserts_batch insert_batch_is

-- ---- the conditions

abbrev in_collection : Part
in_collection = where_equal (codes "collection", 1) (given 1)

abbrev with_keys : List Part
with_keys = in_collection ∷ where_equal (codes "id", 2) (given 2) ∷ []

-- the seconds meet those of two parameters
abbrev in_seconds : ℕ → List Part
in_seconds n = where_at_most (codes "s0", 8) (given n)
    ∷ where_at_least (codes "s1", 9) (given (n + 1)) ∷ []

-- the extent meets a box
abbrev in_extent : List Part → List Part
in_extent more = where_at_most (codes "x0", 4) (given 2)
    ∷ where_at_least (codes "x1", 6) (given 3) ∷ where_at_most (codes "y0", 5) (given 4)
    ∷ where_at_least (codes "y1", 7) (given 5) ∷ more

-- ---- delete_feature

abbrev deletes_feature : Statement
deletes_feature = written.Delete features_name (test_of with_keys) []

abbrev deleting : ℕ → Draft
deleting tree = draft tree both (col 1 0 ∷ []) []

delete_feature_says : IsRead text.delete_feature 2 deletes_feature (first text.delete_feature)
unfolding everything
delete_feature_says = (refl, refl, omega arith, refl)

delete_feature_drafted : (schema : Schema) (at tree : ℕ)
    → slice_get schema.tables at ≡ Some (features tree)
    → deleted schema at (features tree) (test_of with_keys) ≡ Ok (deleting tree)
unfolding everything
delete_feature_drafted schema at tree listed = rw (listed, listed, listed) refl

delete_feature_accepted : (schema : Schema) (tree : ℕ)
    → IsFound schema features_name (features tree)
    → accepts_program schema [] (over tree both (col 1 0 ∷ [])) [] ≡ true
unfolding everything
delete_feature_accepted schema tree it = rw (it.low, it.by_tree) refl

delete_feature_typed : (schema : Schema) (tree : ℕ)
    → IsFound schema features_name (features tree) → (t1 t2 : Text)
    → accepts_program schema [] (over tree both (col 1 0 ∷ [])) (Words t1 ∷ Words t2 ∷ []) ≡ true
unfolding everything
delete_feature_typed schema tree it t1 t2 = rw (it.low, it.by_tree) refl

-- no rule refuses it
pub delete_feature_never : (schema : Schema) (tree : ℕ)
    → IsFound schema features_name (features tree) → (trees : Trees) (t1 t2 : Text) (e : Error)
    → RefusesQuery None (record { schema = schema; trees = trees })
    (program (over tree both (col 1 0 ∷ []))) (Words t1 ∷ Words t2 ∷ []) e
    → ⊥
delete_feature_never schema tree found trees t1 t2 =
    none_refuses schema tree both (col 1 0 ∷ []) [] trees (Words t1 ∷ Words t2 ∷ [])
    (delete_feature_typed schema tree found t1 t2)

pub delete_feature_means : (schema : Schema) (tree : ℕ)
    (found : IsFound schema features_name (features tree))
    → Means schema text.delete_feature 2 (Delete found.at (program (over tree both (col 1 0 ∷ []))))
delete_feature_means schema tree found =
    let read = reads text.delete_feature 2 deletes_feature delete_feature_says in
    means schema text.delete_feature read.parsed 2 _ read.is read.whole read.counted
    (delete_planned schema features_name found.at (features tree) found.named found.listed
    read.parsed (test_of with_keys) (deleting tree) _ read.statement_is read.plain
    (delete_feature_drafted schema found.at tree found.listed)
    (program_is schema (deleting tree) (delete_feature_accepted schema tree found)))

-- ---- select_batch

abbrev selects_batch : Selection
selects_batch = record {
  text = text.select_batch;
  parameters = a_text ∷ [];
  table = batches;
  shown =
      (codes "body", 2) ∷ (codes "opened", 3) ∷ (codes "inserted", 4) ∷ (codes "replaced", 5)
      ∷ (codes "deleted", 6) ∷ (codes "serial", 7) ∷ [];
  conditions = where_equal (codes "key", 1) (given 1) ∷ [];
  by = [];
}

select_batch_is : IsSelect selects_batch
unfolding everything
select_batch_is = record {
  says = (refl, refl, omega arith, refl);
  resolved = λ schema tree it. rw (it.named, it.listed, it.listed, it.listed) refl;
  accepted = λ schema tree it. rw (it.low, it.by_tree) (refl, λ t. refl);
}

pub select_batch_means : SelectMeans selects_batch
select_batch_means = select_means selects_batch select_batch_is

pub select_batch_never : SelectNever selects_batch
select_batch_never = select_never selects_batch select_batch_is

-- ---- select_collection

abbrev pub selects_collection : Selection
selects_collection = record {
  text = text.select_collection;
  parameters = a_text ∷ [];
  table = collections;
  shown = (codes "title", 2) ∷ (codes "time", 3) ∷ [];
  conditions = where_equal (codes "id", 1) (given 1) ∷ [];
  by = [];
}

pub select_collection_is : IsSelect selects_collection
unfolding everything
select_collection_is = record {
  says = (refl, refl, omega arith, refl);
  resolved = λ schema tree it. rw (it.named, it.listed, it.listed, it.listed) refl;
  accepted = λ schema tree it. rw (it.low, it.by_tree) (refl, λ t. refl);
}

pub select_collection_means : SelectMeans selects_collection
select_collection_means = select_means selects_collection select_collection_is

pub select_collection_never : SelectNever selects_collection
select_collection_never = select_never selects_collection select_collection_is

-- ---- select_id

abbrev selects_id : Selection
selects_id = record {
  text = text.select_id;
  parameters = a_text ∷ a_text ∷ [];
  table = features;
  shown = (codes "id", 2) ∷ [];
  conditions = with_keys;
  by = [];
}

select_id_is : IsSelect selects_id
unfolding everything
select_id_is = record {
  says = (refl, refl, omega arith, refl);
  resolved = λ schema tree it. rw (it.named, it.listed, it.listed, it.listed) refl;
  accepted = λ schema tree it. rw (it.low, it.by_tree) (refl, λ t1 t2. refl);
}

pub select_id_means : SelectMeans selects_id
select_id_means = select_means selects_id select_id_is

pub select_id_never : SelectNever selects_id
select_id_never = select_never selects_id select_id_is

-- ---- select_format

abbrev pub selects_format : Selection
selects_format = record {
  text = text.select_format;
  parameters = [];
  table = meta;
  shown = (codes "value", 2) ∷ [];
  conditions = where_equal (codes "name", 1) (quoted (codes "format")) ∷ [];
  by = [];
}

pub select_format_is : IsSelect selects_format
unfolding everything
select_format_is = record {
  says = (refl, refl, omega arith, refl);
  resolved = λ schema tree it. rw (it.named, it.listed, it.listed, it.listed) refl;
  accepted = λ schema tree it. rw (it.low, it.by_tree) (refl, refl);
}

pub select_format_means : SelectMeans selects_format
select_format_means = select_means selects_format select_format_is

pub select_format_never : SelectNever selects_format
select_format_never = select_never selects_format select_format_is

-- ---- select_all

abbrev selects_all : Selection
selects_all = record {
  text = text.select_all;
  parameters = a_text ∷ [];
  table = features;
  shown = (codes "body", 3) ∷ [];
  conditions = in_collection ∷ [];
  by = (codes "id", 2) ∷ [];
}

select_all_is : IsSelect selects_all
unfolding everything
select_all_is = record {
  says = (refl, refl, omega arith, refl);
  resolved = λ schema tree it. rw (it.named, it.listed, it.listed, it.listed, it.listed) refl;
  accepted = λ schema tree it. rw (it.low, it.by_tree) (refl, λ t. refl);
}

pub select_all_means : SelectMeans selects_all
select_all_means = select_means selects_all select_all_is

pub select_all_never : SelectNever selects_all
select_all_never = select_never selects_all select_all_is

-- ---- select_in_box

abbrev selects_in_box : Selection
selects_in_box = record {
  text = text.select_in_box;
  parameters = a_text ∷ a_number ∷ a_number ∷ a_number ∷ a_number ∷ [];
  table = features;
  shown = (codes "body", 3) ∷ [];
  conditions = in_collection ∷ in_extent [];
  by = (codes "id", 2) ∷ [];
}

select_in_box_is : IsSelect selects_in_box
unfolding everything
select_in_box_is = record {
  says = (refl, refl, omega arith, refl);
  resolved = λ schema tree it. rw (it.named, it.listed, it.listed, it.listed, it.listed) refl;
  accepted = λ schema tree it. rw (it.low, it.by_tree) (refl, λ t z1 z2 z3 z4. refl);
}

pub select_in_box_means : SelectMeans selects_in_box
select_in_box_means = select_means selects_in_box select_in_box_is

pub select_in_box_never : SelectNever selects_in_box
select_in_box_never = select_never selects_in_box select_in_box_is

-- ---- select_in_time

abbrev selects_in_time : Selection
selects_in_time = record {
  text = text.select_in_time;
  parameters = a_text ∷ a_number ∷ a_number ∷ [];
  table = features;
  shown = (codes "body", 3) ∷ [];
  conditions = in_collection ∷ in_seconds 2;
  by = (codes "id", 2) ∷ [];
}

select_in_time_is : IsSelect selects_in_time
unfolding everything
select_in_time_is = record {
  says = (refl, refl, omega arith, refl);
  resolved = λ schema tree it. rw (it.named, it.listed, it.listed, it.listed, it.listed) refl;
  accepted = λ schema tree it. rw (it.low, it.by_tree) (refl, λ t z1 z2. refl);
}

pub select_in_time_means : SelectMeans selects_in_time
select_in_time_means = select_means selects_in_time select_in_time_is

pub select_in_time_never : SelectNever selects_in_time
select_in_time_never = select_never selects_in_time select_in_time_is

-- ---- select_in_both

abbrev selects_in_both : Selection
selects_in_both = record {
  text = text.select_in_both;
  parameters = a_text ∷ a_number ∷ a_number ∷ a_number ∷ a_number ∷ a_number ∷ a_number ∷ [];
  table = features;
  shown = (codes "body", 3) ∷ [];
  conditions = in_collection ∷ in_extent (in_seconds 6);
  by = (codes "id", 2) ∷ [];
}

select_in_both_is : IsSelect selects_in_both
unfolding everything
select_in_both_is = record {
  says = (refl, refl, omega arith, refl);
  resolved = λ schema tree it. rw (it.named, it.listed, it.listed, it.listed, it.listed) refl;
  accepted = λ schema tree it. rw (it.low, it.by_tree) (refl, λ t z1 z2 z3 z4 z5 z6. refl);
}

pub select_in_both_means : SelectMeans selects_in_both
select_in_both_means = select_means selects_in_both select_in_both_is

pub select_in_both_never : SelectNever selects_in_both
select_in_both_never = select_never selects_in_both select_in_both_is

-- ---- select_collections

abbrev pub selects_collections : Selection
selects_collections = record {
  text = text.select_collections;
  parameters = [];
  table = collections;
  shown = (codes "id", 1) ∷ (codes "title", 2) ∷ (codes "time", 3) ∷ [];
  conditions = [];
  by = (codes "id", 1) ∷ [];
}

pub select_collections_is : IsSelect selects_collections
unfolding everything
select_collections_is = record {
  says = (refl, refl, omega arith, refl);
  resolved = λ schema tree it. rw (it.named, it.listed, it.listed, it.listed, it.listed) refl;
  accepted = λ schema tree it. rw (it.low, it.by_tree) (refl, refl);
}

pub select_collections_means : SelectMeans selects_collections
select_collections_means = select_means selects_collections select_collections_is

pub select_collections_never : SelectNever selects_collections
select_collections_never = select_never selects_collections select_collections_is
