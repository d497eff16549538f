-- A write of one of our tables leaves what is beside them.
use Rattle.std.proofs.Common.{◌≡◌, true, refl, sym, ap, ◌∙◌}
use Rattle.std.proofs.lemmas.Bool.{both_ways}
use Rattle.sqlite.specs.Effect.{Database}
use Rattle.sqlite.specs.Table.{Table}
use Rattle.sqlite_trees.specs.Tree.{IsAscending}
use Rattle.sqlite_schema.specs.declared.schema.Keys.{Keys}
use Rattle.sqlite_rules.specs.Edit.{Edit, Applies}
use Rattle.sqlite_rules.specs.Lists.{Has}
use Rattle.sqlite_rules.proofs.ListLemmas.{all_has}
use Rattle.sqlite_rules.proofs.RuleLemmas.{same_table}
use Rattle.sqlite_tied.specs.Compute.{everything}
use Rattle.streetmap_rows.specs.Elsewhere.{is_our_name, IsSameElsewhere}
use Rattle.streetmap_rows.specs.Tables.{collections_name, batches_name, features_name}

pub collections_ours : is_our_name collections_name ≡ true
unfolding everything
collections_ours = refl

pub batches_ours : is_our_name batches_name ≡ true
unfolding everything
batches_ours = refl

pub features_ours : is_our_name features_name ≡ true
unfolding everything
features_ours = refl

pub same_elsewhere : (old new : Database) (keys : Keys) (edit : Edit) → IsAscending (λ a b. a.tree ≡ b.tree → ⊥) old.schema.tables →
    Has old.schema.tables edit.table → is_our_name edit.table.name ≡ true → new.schema ≡ old.schema
    → Applies old.schema keys old.trees edit new.trees → IsSameElsewhere old new
same_elsewhere old new keys edit apart there ours schema step = record {
  schema = schema;
  tables = λ t had other. all_has _ old.schema.tables t step.tables had (λ same. both_ways _ other
      (ap (λ (x : Table). is_our_name x.name) (same_table old.schema.tables t edit.table apart had there same) ∙ ours));
  others = λ tree none no_index. step.others tree (λ same. all_has _ old.schema.tables edit.table none there (sym same)) no_index;
}
