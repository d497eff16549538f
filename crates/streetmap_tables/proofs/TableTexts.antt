-- The texts of our four tables.
use Rattle.std.proofs.Common.{◌≡◌, Bool, ℕ, List, [], Ok, refl, true, false, not, is_ok}
use Rattle.sqlite.specs.State.{text_of}
use Rattle.sqlite_ast.specs.declared.CreateTable.{CreateTable as Def}
use Rattle.sqlite_ast.specs.declared.Statement.{Statement}
use Rattle.sqlite_ast.specs.declared.Statement.TheVariants as written
use Rattle.sqlite_resolve.specs.Compile.{first, table_defined_by}
use Rattle.sqlite_tied.specs.Compute.{everything}
use Rattle.sqlite.specs.Table.{Table}
use Rattle.streetmap_rows.proofs.Drafts.{parsed_of, was_parsed}
use Rattle.streetmap_rows.specs.Tables.{meta, meta_text, collections, collections_text, batches, batches_text, features, features_text}
use Rattle.streetmap_tables.specs.Made.{creating, IsTableText}

is_create : Statement → Bool
is_create (written.CreateTable def) = not def.if_missing
is_create _ = false

-- a statement that makes a table, and does not pass over an existing one
record Makes (s : Statement) : Type 0 where
  def : Def
  is : s ≡ written.CreateTable def
  fresh : def.if_missing ≡ false

makes_of : (s : Statement) → is_create s ≡ true → Makes s
unfolding is_create
makes_of (written.CreateTable def) h = record { def = def; is = refl; fresh = go def.if_missing h }
  where
    go : (b : Bool) → not b ≡ true → b ≡ false
    go true e = absurd (cc)
    go false e = refl
makes_of _ h = absurd (cc)

table_text : (sql : List ℕ) (table : Table) (reads : is_ok (first sql) ≡ true) → (is_create (parsed_of (first sql) reads).statement ≡ true)
    × ((parsed_of (first sql) reads).formats ≡ []) × (text_of sql (creating (parsed_of (first sql) reads)) ≡ sql)
    → table_defined_by sql ≡ Ok table → IsTableText sql table
table_text sql table reads says defined =
    let it = makes_of (parsed_of (first sql) reads).statement says.0 in
    record {
      parsed = parsed_of (first sql) reads;
      is = was_parsed (first sql) reads;
      written = it.def;
      makes = it.is;
      fresh = it.fresh;
      plain = says.1;
      whole =
          says.2;
      defined = defined;
    }

meta_reads : is_ok (first meta_text) ≡ true
unfolding everything
meta_reads = refl

meta_says : (is_create (parsed_of (first meta_text) meta_reads).statement ≡ true) × ((parsed_of (first meta_text) meta_reads).formats ≡ [])
    × (text_of meta_text (creating (parsed_of (first meta_text) meta_reads)) ≡ meta_text)
unfolding everything is_create
meta_says = (refl, refl, refl)

meta_defined : table_defined_by meta_text ≡ Ok (meta 0)
unfolding everything
meta_defined = refl

pub meta_is : IsTableText meta_text (meta 0)
meta_is = table_text meta_text (meta 0) meta_reads meta_says meta_defined

collections_reads : is_ok (first collections_text) ≡ true
unfolding everything
collections_reads = refl

collections_says : (is_create (parsed_of (first collections_text) collections_reads).statement ≡ true)
    × ((parsed_of (first collections_text) collections_reads).formats ≡ []) × (text_of collections_text
    (creating (parsed_of (first collections_text) collections_reads)) ≡ collections_text)
unfolding everything is_create
collections_says = (refl, refl, refl)

collections_defined : table_defined_by collections_text ≡ Ok (collections 0)
unfolding everything
collections_defined = refl

pub collections_is : IsTableText collections_text (collections 0)
collections_is = table_text collections_text (collections 0) collections_reads collections_says collections_defined

batches_reads : is_ok (first batches_text) ≡ true
unfolding everything
batches_reads = refl

batches_says : (is_create (parsed_of (first batches_text) batches_reads).statement ≡ true) × ((parsed_of (first batches_text) batches_reads).formats ≡ [])
    × (text_of batches_text (creating (parsed_of (first batches_text) batches_reads)) ≡ batches_text)
unfolding everything is_create
batches_says = (refl, refl, refl)

batches_defined : table_defined_by batches_text ≡ Ok (batches 0)
unfolding everything
batches_defined = refl

pub batches_is : IsTableText batches_text (batches 0)
batches_is = table_text batches_text (batches 0) batches_reads batches_says batches_defined

features_reads : is_ok (first features_text) ≡ true
unfolding everything
features_reads = refl

features_says : (is_create (parsed_of (first features_text) features_reads).statement ≡ true) × ((parsed_of (first features_text) features_reads).formats ≡ [])
    × (text_of features_text (creating (parsed_of (first features_text) features_reads)) ≡ features_text)
unfolding everything is_create
features_says = (refl, refl, refl)

features_defined : table_defined_by features_text ≡ Ok (features 0)
unfolding everything
features_defined = refl

pub features_is : IsTableText features_text (features 0)
features_is = table_text features_text (features 0) features_reads features_says features_defined
