-- Trees list the tables of one schema.
use Rattle.std.proofs.Common.{◌≡◌, ◌+◌, pos, List, [], ◌∷◌, Ok, refl, sym, ap, ap₂, ◌∙◌, arith}
use Rattle.sqlite.specs.Order.{Row}
use Rattle.sqlite.specs.declared.types.Value.TheVariants.{Int, Text as Words}
use Rattle.sqlite.specs.Table.{Table}
use Rattle.sqlite.specs.Schema.{Schema}
use Rattle.sqlite_trees.specs.Tree.{Trees}
use Rattle.std.specs.List.{AllZip}
use Rattle.sqlite_catalog.specs.Listing.{IsSound, IsTableRow}
use Rattle.sqlite_resolve.specs.Compile.{table_defined_by}
use Rattle.sqlite_resolve.specs.Lowering.{Checked}

-- a row is that of one table
one_table : (row : Row) (s t : Table) → IsTableRow row s → IsTableRow row t → s ≡ t
one_table row s t p q =
    let id : Int (pos (s.tree + 1)) ≡ Int (pos (t.tree + 1)) = sym p.described.id ∙ q.described.id in
    let next : s.tree + 1 ≡ t.tree + 1 = cc in
    let tree : s.tree ≡ t.tree = omega arith in
    let text : Words p.sql ≡ Words q.sql = sym p.sql_is ∙ q.sql_is in
    let sql : p.sql ≡ q.sql = cc in
    let both : ◌≡◌ {A = Checked Table} (Ok p.defined.0) (Ok q.defined.0) = sym p.defined.1 ∙ ap table_defined_by sql ∙ q.defined.1 in
    let made : p.defined.0 ≡ q.defined.0 = cc in
    p.defined.2 ∙ (λ i. record (made i) { tree = tree i }) ∙ sym q.defined.2

one_list : (rows : List Row) (a b : List Table) → AllZip IsTableRow rows a → AllZip IsTableRow rows b → a ≡ b
one_list [] [] [] p q = refl
one_list [] [] (t ∷ b) p q = absurd q
one_list [] (s ∷ a) b p q = absurd p
one_list (r ∷ rows) [] b p q = absurd p
one_list (r ∷ rows) (s ∷ a) [] p q = absurd q
one_list (r ∷ rows) (s ∷ a) (t ∷ b) p q = ap₂ (λ x xs. x ∷ xs) (one_table r s t p.0 q.0) (one_list rows a b p.1 q.1)

-- two schemas that the trees list have the same tables
pub one_schema : (a b : Schema) (trees : Trees) → IsSound a trees → IsSound b trees → a.tables ≡ b.tables
one_schema a b trees p q = one_list _ a.tables b.tables p.lists.listed.tables q.lists.listed.tables
