-- The texts that drop the tables of the features and of the format.
use Rattle.std.proofs.Common.{◌≡◌, ◌≤◌, ℕ, List, [], length, codes, refl, true, false, is_ok, arith}
use Rattle.sqlite_ast.specs.declared.Statement.TheVariants as written
use Rattle.sqlite_catalog.specs.Change.{is_reserved}
use Rattle.sqlite_resolve.specs.Compile.{first}
use Rattle.sqlite_tied.specs.Compute.{everything}
use Rattle.streetmap_rows.proofs.Drafts.{parsed_of, was_parsed}
use Rattle.streetmap_rows.specs.Tables.{meta_name, features_name}
use Rattle.streetmap_tables.specs.Drops.{IsDropText, IsDropAlone}

abbrev pub drop_features : List ℕ
drop_features = codes "DROP TABLE streetmap_features"

abbrev pub drop_meta : List ℕ
drop_meta = codes "DROP TABLE streetmap_meta"

features_reads : is_ok (first drop_features) ≡ true
unfolding everything
features_reads = refl

features_says : ((parsed_of (first drop_features) features_reads).statement ≡ written.DropTable false features_name)
    × ((parsed_of (first drop_features) features_reads).formats ≡ []) × (length drop_features ≤ (parsed_of (first drop_features) features_reads).tail)
    × (0 ≡ length (parsed_of (first drop_features) features_reads).names) × (is_reserved features_name ≡ false)
unfolding everything
features_says = (refl, refl, omega arith, refl, refl)

pub drops_features : IsDropText drop_features features_name
drops_features = record {
  parsed = parsed_of (first drop_features) features_reads;
  is = was_parsed (first drop_features) features_reads;
  drops =
      features_says.0;
  plain = features_says.1;
}

pub features_alone : IsDropAlone drop_features features_name
unfolding drops_features
features_alone = record { is = drops_features; whole = features_says.2; bare = features_says.3; unreserved = features_says.4 }

meta_reads : is_ok (first drop_meta) ≡ true
unfolding everything
meta_reads = refl

meta_says : ((parsed_of (first drop_meta) meta_reads).statement ≡ written.DropTable false meta_name) × ((parsed_of (first drop_meta) meta_reads).formats ≡ [])
    × (length drop_meta ≤ (parsed_of (first drop_meta) meta_reads).tail) × (0 ≡ length (parsed_of (first drop_meta) meta_reads).names)
    × (is_reserved meta_name ≡ false)
unfolding everything
meta_says = (refl, refl, omega arith, refl, refl)

pub drops_meta : IsDropText drop_meta meta_name
drops_meta = record { parsed = parsed_of (first drop_meta) meta_reads; is = was_parsed (first drop_meta) meta_reads; drops = meta_says.0; plain = meta_says.1 }

pub meta_alone : IsDropAlone drop_meta meta_name
unfolding drops_meta
meta_alone = record { is = drops_meta; whole = meta_says.2; bare = meta_says.3; unreserved = meta_says.4 }
