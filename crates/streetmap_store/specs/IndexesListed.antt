-- Trees list the indexes of one schema, and so they are a state's under each schema that they list.
use Rattle.std.proofs.Common.{◌≡◌, ℕ, ◌+◌, pos, List, [], ◌∷◌, Some, Ok, true, false, refl}
use Rattle.std.proofs.Common.{sym, ap, ap₂, subst, ◌∙◌, arith, find, slice_get, filter, not}
use Rattle.std.specs.List.{AllByRecursion, AllZip, list_any, list_all}
use Rattle.sqlite.specs.declared.types.Value.{Value}
use Rattle.sqlite.specs.declared.types.Value.TheVariants.{Null, Int, Real, Text as Words, Blob}
use Rattle.sqlite.specs.Order.{Row, column}
use Rattle.sqlite.specs.Table.{Table}
use Rattle.sqlite.specs.Schema.{Schema}
use Rattle.sqlite_schema.specs.Names.{same_name}
use Rattle.sqlite_schema.specs.declared.schema.Index.{Index}
use Rattle.sqlite_rules.specs.Lists.{Has}
use Rattle.sqlite_trees.specs.Tree.{Trees, IsAscending}
use Rattle.sqlite_trees.specs.Objects.{catalog_tree}
use Rattle.sqlite_catalog.specs.Listing.{IsSound, IsIndexRow, IsDefined, automatic, is_index_row}
use Rattle.sqlite_catalog.proofs.StepLemmas.{same_itself, named_once}
use Rattle.sqlite_catalog.proofs.AlterLemmas.{numbers_differ}
use Rattle.sqlite_resolve.specs.Lowering.{Checked}
use Rattle.streetmap_ledger.specs.State.{State}
use Rattle.streetmap_rows.proofs.Schemas.{one_schema}
use Rattle.streetmap_rows.specs.Tables.{Roots, IsOurs, IsNamed, features_name}
use Rattle.streetmap_rows.specs.KeptStates.{Keeps}

-- no two tables have one name
abbrev IsNamedOnce : List Table → Type 0
IsNamedOnce = IsAscending (λ s t. same_name s.name t.name ≡ false)

-- a definition is that of one index of a name in a tree
one_defined : (table : Table) (v : Value) (i j : Index) → i.tree ≡ j.tree → i.name ≡ j.name
    → IsDefined table i v → IsDefined table j v → i ≡ j
one_defined table Null i j tree name p q =
    let named : (automatic table p.0 [] 0).name ≡ (automatic table q.0 [] 0).name =
    sym (ap (λ (x : Index). x.name) p.3) ∙ name ∙ ap (λ (x : Index). x.name) q.3 in
    let at : p.0 ≡ q.0 = numbers_differ table p.0 q.0 p.4 q.4
    (subst (λ n. same_name (automatic table p.0 [] 0).name n ≡ true) named (same_itself _)) in
    let both : ◌≡◌ (Some p.1) (Some q.1) =
    sym p.2 ∙ ap (λ n. slice_get table.uniques n) at ∙ q.2 in
    let key : p.1 ≡ q.1 = cc in
    p.3 ∙ (λ k. automatic table (at k) (key k) (tree k)) ∙ sym q.3
one_defined table (Int n) i j tree name p q = absurd p
one_defined table (Real x) i j tree name p q = absurd p
one_defined table (Words sql) i j tree name p q =
    let both : ◌≡◌ {A = Checked Index} (Ok p.0) (Ok q.0) = sym p.1 ∙ q.1 in
    let made : p.0 ≡ q.0 = cc in
    p.2 ∙ (λ k. record (made k) { tree = tree k; table = table.tree }) ∙ sym q.2
one_defined table (Blob b) i j tree name p q = absurd p

-- a row is that of one index
one_index : (tables : List Table) → IsNamedOnce tables → (row : Row) (i j : Index)
    → IsIndexRow tables row i → IsIndexRow tables row j → i ≡ j
one_index tables named row i j p q =
    let id : Int (pos (i.tree + 1)) ≡ Int (pos (j.tree + 1)) =
    sym p.described.id ∙ q.described.id in
    let next : i.tree + 1 ≡ j.tree + 1 = cc in
    let tree : i.tree ≡ j.tree = omega arith in
    let names : Words i.name ≡ Words j.name = sym p.described.name_is ∙ q.described.name_is in
    let name : i.name ≡ j.name = cc in
    let owners : Words p.table.name ≡ Words q.table.name =
    sym p.described.owner_is ∙ q.described.owner_is in
    let owner : p.table.name ≡ q.table.name = cc in
    let table : p.table ≡ q.table =
    named_once tables p.table q.table named p.listed q.listed
    (subst (λ n. same_name p.table.name n ≡ true) owner (same_itself p.table.name)) in
    one_defined p.table (column row 4) i j tree name p.defined
    (subst (λ t. IsDefined t j (column row 4)) (sym table) q.defined)

one_list : (tables : List Table) → IsNamedOnce tables → (rows : List Row) (a b : List Index)
    → AllZip (IsIndexRow tables) rows a → AllZip (IsIndexRow tables) rows b → a ≡ b
one_list tables named [] [] [] p q = refl
one_list tables named [] [] (t ∷ b) p q = absurd q
one_list tables named [] (s ∷ a) b p q = absurd p
one_list tables named (r ∷ rows) [] b p q = absurd p
one_list tables named (r ∷ rows) (s ∷ a) [] p q = absurd q
one_list tables named (r ∷ rows) (s ∷ a) (t ∷ b) p q =
    ap₂ (λ x xs. x ∷ xs) (one_index tables named r s t p.0 q.0)
    (one_list tables named rows a b p.1 q.1)

-- two schemas that the trees list have the same indexes
pub one_indexes : (a b : Schema) (trees : Trees) → IsSound a trees → IsSound b trees
    → a.indexes ≡ b.indexes
one_indexes a b trees p q =
    let same = one_schema a b trees p q in
    one_list a.tables p.lists.listed.named _ a.indexes b.indexes p.lists.listed.indexes
    (subst (λ ts. AllZip (IsIndexRow ts) (filter is_index_row (trees catalog_tree)) b.indexes)
    (sym same) q.lists.listed.indexes)

-- our tables are those of each schema with the same tables and indexes
ours_too : (roots : Roots) (a b : Schema) → a.tables ≡ b.tables → a.indexes ≡ b.indexes
    → IsOurs roots a → IsOurs roots b
ours_too roots a b tables indexes it = record {
  meta_is = named _ _ it.meta_is;
  collections_is = named _ _ it.collections_is;
  batches_is = named _ _ it.batches_is;
  features_is = named _ _ it.features_is;
  apart = subst (IsAscending (λ s t. s.tree ≡ t.tree → ⊥)) tables it.apart;
  guarded = ap (list_any _) (sym indexes) ∙ it.guarded;
  on_collections = λ i has. it.on_collections i (subst (λ is. Has is i) (sym indexes) has);
  on_batches = λ i has. it.on_batches i (subst (λ is. Has is i) (sym indexes) has);
  on_features = λ i has. it.on_features i (subst (λ is. Has is i) (sym indexes) has);
  alone = subst (AllByRecursion (λ t. list_all (λ ref.
      not (same_name features_name ref.parent)) t.references ≡ true)) tables it.alone;
}
  where
    named : (name : List ℕ) (table : Table) → IsNamed a name table → IsNamed b name table
    named name table h = ap (find _) (sym tables) ∙ h

-- trees that are a state's under one schema are so under each that they list
pub keeps_too : (s : State) (a b : Schema) (trees : Trees) → IsSound b trees
    → Keeps s (record { schema = a; trees = trees })
    → Keeps s (record { schema = b; trees = trees })
keeps_too s a b trees sound it =
    let tables = one_schema a b trees it.rows.sound sound in
    let indexes = one_indexes a b trees it.rows.sound sound in
    record {
      well = it.well;
      rows = record {
        roots = it.rows.roots;
        ours = ours_too it.rows.roots a b tables indexes it.rows.ours;
        of = it.rows.of;
        readable = it.rows.readable;
        sound = sound;
      };
    }
