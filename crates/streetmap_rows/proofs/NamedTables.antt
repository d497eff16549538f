-- The place of the table that a name finds.
use Rattle.std.proofs.Common.{◌≡◌, ◌≢◌, inl, inr, ℕ, suc, ◌+◌, ◌<◌, ◌^◌, List, [], ◌∷◌, Bool, false, find, slice_get, Some, refl, ap, ◌∙◌, arith, eqb, eq-eqb}
use Rattle.std.proofs.Common.{nat_le}
use Rattle.std.specs.List.{position_from}
use Rattle.std.proofs.lemmas.Bool.{cases_Bool, ne_eqb, false_from_ne_true, leb-true}
use Rattle.sqlite.specs.Table.{Table}
use Rattle.sqlite.specs.Schema.{Schema}
use Rattle.sqlite.specs.Effect.{Database, IsDatabase}
use Rattle.sqlite_trees.specs.Tree.{IsAscending}
use Rattle.sqlite_catalog.specs.Listing.{IsTableRow}
use Rattle.sqlite_catalog.proofs.LayoutLemmas.{zipped_left}
use Rattle.sqlite_schema.specs.Names.{same_name, table_named}
use Rattle.sqlite_rules.specs.Lists.{Has}
use Rattle.sqlite_rules.proofs.ListLemmas.{all_has, has_found}
use Rattle.sqlite_rules.proofs.RuleLemmas.{same_table}

-- what is found first has a place
pub record IsAt {A : Type 0} (p : A → Bool) (n : ℕ) (xs : List A) (x : A) : Type 0 where
  pub at : ℕ
  pub position : position_from p n xs ≡ Some (n + at)
  pub listed : slice_get xs at ≡ Some x

pub is_at : {A : Type 0} (p : A → Bool) (n : ℕ) (xs : List A) (x : A) → find p xs ≡ Some x → IsAt p n xs x
is_at p n [] x h = absurd (cc)
is_at p n (y ∷ xs) x h = elim (cases_Bool (p y)) [
  | inl here ↦ record { at = 0; position = rw here (ap (λ k. Some k) (omega arith)); listed = rw here at h }
  | inr other ↦ (let more = is_at p (n + 1) xs x (rw other at h) in record {
    at = suc more.at;
    position =
        rw other (more.position ∙ ap (λ k. Some k) (omega arith));
    listed = more.listed;
  })
]

found_by_tree : (tables : List Table) (t : Table) → IsAscending (λ a b. a.tree ≡ b.tree → ⊥) tables → Has tables t → find (λ u. eqb u.tree t.tree) tables
    ≡ Some t
found_by_tree [] t apart h = absurd h
found_by_tree (u ∷ tables) t apart (inl e) = rw (← e, eq-eqb t.tree t.tree refl)
found_by_tree (u ∷ tables) t apart (inr h) = rw (ne_eqb u.tree t.tree (all_has _ tables t apart.0 h)) (found_by_tree tables t apart.1 h)

-- the name finds the table, and so does its tree
pub record IsFound (schema : Schema) (name : List ℕ) (table : Table) : Type 0 where
  pub at : ℕ
  pub named : table_named schema name ≡ Some at
  pub listed : slice_get schema.tables at ≡ Some table
  pub there : Has schema.tables table
  pub by_tree : find (λ t. eqb t.tree table.tree) schema.tables ≡ Some table
  pub low : nat_le (2 ^ 31) table.tree ≡ false

low_tree : (n : ℕ) → n < 65536 → nat_le (2 ^ 31) n ≡ false
low_tree n h = false_from_ne_true _ (λ yes. omega (arith, leb-true (2 ^ 31) n yes))

pub is_found : (db : Database) (name : List ℕ) (table : Table) → IsDatabase db → IsAscending (λ a b. a.tree ≡ b.tree → ⊥) db.schema.tables →
    find (λ t. same_name t.name name) db.schema.tables ≡ Some table → IsFound db.schema name table
is_found db name table sound apart h =
    let represented = is_at (λ (t : Table). same_name t.name name) 0 db.schema.tables table h in
    let there = (has_found (λ (t : Table). same_name t.name name) db.schema.tables table h).0 in
    let row = zipped_left IsTableRow _ db.schema.tables table sound.lists.listed.tables there in
    record {
      at = represented.at;
      named = represented.position ∙ ap (λ k. Some k) (omega arith);
      listed = represented.listed;
      there = there;
      by_tree = found_by_tree db.schema.tables table apart there;
      low = low_tree table.tree row.2.described.low;
    }

-- tables of other names have other trees
pub trees_differ : (schema : Schema) (s t : Table) → IsAscending (λ a b. a.tree ≡ b.tree → ⊥) schema.tables → Has schema.tables s → Has schema.tables t →
    (s.name ≡ t.name → ⊥) → s.tree ≢ t.tree
trees_differ schema s t apart h k other same = other (ap (λ (x : Table). x.name) (same_table schema.tables s t apart h k same))
