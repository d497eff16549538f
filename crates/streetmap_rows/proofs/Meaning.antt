-- What a text means, once for each kind of statement. A text gives its parts, as they are written
-- and as they are meant, and what the parser, the resolver and the types compute of it.
use Rattle.std.proofs.Common.{◌≡◌, ℕ, ℤ, zero, suc, ◌+◌, ◌-◌, ◌%◌, ◌≤◌, List, Option, [], ◌∷◌, map}
use Rattle.std.proofs.Common.{◌++◌, length, Ok, Err, Some, None, true, false, inl, inr, refl, sym, ap}
use Rattle.std.proofs.Common.{subst, ◌∙◌, true≢false}
use Rattle.sqlite.specs.declared.types.Value.TheVariants.{Null, Int, Text as Words}
use Rattle.sqlite.specs.declared.error.Error.{Error}
use Rattle.sqlite.specs.Order.{Row}
use Rattle.sqlite.specs.Query.{Query}
use Rattle.sqlite.specs.Term.{Term, lit, col, op2}
use Rattle.sqlite.specs.Table.{Table}
use Rattle.sqlite.specs.Schema.{Schema}
use Rattle.sqlite.specs.Source.TheVariants.{Values}
use Rattle.sqlite.specs.Command.TheVariants.{Insert, Select}
use Rattle.sqlite.specs.Effect.{RefusesQuery}
use Rattle.sqlite_sql.specs.declared.ops.BinaryOp.TheVariants.{Coalesce, Compare}
use Rattle.sqlite_sql.specs.declared.ops.CompareOp.TheVariants.{Gt}
use Rattle.sqlite_value.specs.declared.keys.Collation.{Collation}
use Rattle.sqlite_value.specs.declared.keys.Collation.TheVariants.{Binary}
use Rattle.sqlite_value.specs.declared.keys.Key.{Key}
use Rattle.sqlite_ast.specs.declared.Expr.{Expr}
use Rattle.sqlite_ast.specs.declared.Expr.TheVariants as expr
use Rattle.sqlite_ast.specs.declared.Binary.TheVariants as op
use Rattle.sqlite_ast.specs.declared.Unary.TheVariants as unary
use Rattle.sqlite_ast.specs.declared.Core.{Core, roll-Core}
use Rattle.sqlite_ast.specs.declared.Sort.{Sort, roll-Sort}
use Rattle.sqlite_ast.specs.declared.Select.{Select as Selects, out-Select, roll-Select}
use Rattle.sqlite_ast.specs.declared.Select.{out-roll-Select}
use Rattle.sqlite_ast.specs.declared.Rows.{Rows}
use Rattle.sqlite_ast.specs.declared.Rows.TheVariants as rows
use Rattle.sqlite_ast.specs.declared.Conflict.TheVariants as conflict
use Rattle.sqlite_ast.specs.declared.Statement.{Statement}
use Rattle.sqlite_ast.specs.declared.Statement.TheVariants as written
use Rattle.sqlite_syntax.specs.declared.statement.Parsed.{Parsed}
use Rattle.sqlite_draft.specs.declared.query.Draft.{Draft}
use Rattle.sqlite_trees.specs.Tree.{Trees}
use Rattle.sqlite_typing.specs.Types.{accepts_program}
use Rattle.sqlite_resolve.specs.Compile.{first, new_rows}
use Rattle.sqlite_resolve.specs.Lowering.{Checked}
use Rattle.sqlite_resolve.specs.Select.{named}
use Rattle.sqlite_tied.specs.Compute.{everything}
use Rattle.streetmap_batch.specs.Text.{Text}
use Rattle.streetmap_rows.specs.Queries.{over_in, program}
use Rattle.streetmap_rows.proofs.Drafts.{named_column, from_table, shown_column, equal_terms}
use Rattle.streetmap_rows.proofs.Drafts.{at_most, at_least, rising, draft}
use Rattle.streetmap_rows.proofs.NamedTables.{IsFound}
use Rattle.streetmap_rows.proofs.Resolving.{Means, means, IsOne, whole_page, insert_planned}
use Rattle.streetmap_rows.proofs.Resolving.{select_planned, program_is}

-- ---- the parts of a statement

-- a column of a table, by its name and its place
abbrev pub Column : Type 0
Column = List ℕ × ℕ

-- a value or a condition, as it is written and as it is meant
abbrev pub Part : Type 0
Part = Expr × Term

-- the value of the parameter with this number
abbrev pub given : ℕ → Part
given n = (expr.Parameter n, col 0 (n - 1))

-- the values of this number of parameters, from this one on
abbrev pub given_from : ℕ → ℕ → List Part
given_from n zero = []
given_from n (suc more) = given n ∷ given_from (n + 1) more

-- a text in the statement
abbrev pub quoted : List ℕ → Part
quoted t = (expr.Text t, lit (Words t))

abbrev pub where_equal : Column → Part → Part
where_equal c v = (expr.Binary op.Eq (named_column c.0) v.0, equal_terms (col 1 c.1) v.1)

-- the same, but all rows are gone over, and none is looked up by the column
abbrev pub where_equal_in_turn : Column → Part → Part
where_equal_in_turn c v = (
  expr.Binary op.Eq (expr.Unary unary.Plus (named_column c.0)) v.0,
  equal_terms (op2 Coalesce (col 1 c.1) (lit Null)) v.1,
)

abbrev pub where_at_most : Column → Part → Part
where_at_most c v = (expr.Binary op.Le (named_column c.0) v.0, at_most (col 1 c.1) v.1)

abbrev pub where_at_least : Column → Part → Part
where_at_least c v = (expr.Binary op.Ge (named_column c.0) v.0, at_least (col 1 c.1) v.1)

abbrev pub where_above : Column → Part → Part
where_above c v =
    (expr.Binary op.Gt (named_column c.0) v.0, op2 (Compare Gt Binary) (col 1 c.1) v.1)

-- conditions that are to hold together, as they are written
abbrev pub joined : Expr → List Part → Expr
joined test [] = test
joined test (c ∷ more) = joined (expr.Binary op.And test c.0) more

abbrev pub test_of : List Part → Option Expr
test_of [] = None
test_of (c ∷ more) = Some (joined c.0 more)

abbrev pub meant : List Part → List Term
meant = map (λ (p : Part). p.1)

-- what a parameter is
pub data Parameter : Type 0 where
  a_text : Parameter
  a_number : Parameter

-- this holds of all values of the parameters
abbrev pub ForAll : List Parameter → (Row → Type 0) → Type 0
ForAll [] P = P []
ForAll (a_text ∷ more) P = (t : Text) → ForAll more (λ r. P (Words t ∷ r))
ForAll (a_number ∷ more) P = (z : ℤ) → ForAll more (λ r. P (Int z ∷ r))

for_all : (parameters : List Parameter) (P Q : Row → Type 0) → ((r : Row) → P r → Q r)
    → ForAll parameters P → ForAll parameters Q
for_all [] P Q so h = so [] h
for_all (a_text ∷ more) P Q so h =
    λ t. for_all more (λ r. P (Words t ∷ r)) (λ r. Q (Words t ∷ r)) (λ r. so (Words t ∷ r)) (h t)
for_all (a_number ∷ more) P Q so h =
    λ z. for_all more (λ r. P (Int z ∷ r)) (λ r. Q (Int z ∷ r)) (λ r. so (Int z ∷ r)) (h z)

-- ---- what is read of a text

-- it is this statement with this number of parameters, and nothing follows it
abbrev pub IsRead : List ℕ → ℕ → Statement → Checked Parsed → Type 0
IsRead text count statement (Ok p) =
    (p.statement ≡ statement) × (p.formats ≡ []) × (length text ≤ p.tail)
    × (count ≡ length p.names)
IsRead text count statement (Err e) = ⊥

-- the text is read so
pub record Reads (text : List ℕ) (count : ℕ) (statement : Statement) : Type 0 where
  pub parsed : Parsed
  pub is : first text ≡ Ok parsed
  pub statement_is : parsed.statement ≡ statement
  pub plain : parsed.formats ≡ []
  pub whole : length text ≤ parsed.tail
  pub counted : count ≡ length parsed.names

pub reads : (text : List ℕ) (count : ℕ) (statement : Statement)
    → IsRead text count statement (first text) → Reads text count statement
reads text count statement it = go (first text) refl it
  where
    go : (r : Checked Parsed) → first text ≡ r → IsRead text count statement r
        → Reads text count statement
    go (Ok p) is h = record {
      parsed = p;
      is = is;
      statement_is = h.0;
      plain = h.1;
      whole = h.2;
      counted = h.3;
    }
    go (Err e) is h = absurd h

-- ---- INSERT of rows

-- into a table, which is in a tree
pub record Insertion : Type 0 where
  pub text : List ℕ
  pub count : ℕ
  pub table : ℕ → Table
  pub columns : List (List ℕ)
  pub rows : List (List Part)

-- in each row a rowid that is not yet known comes first
abbrev pub row_terms : List (List Part) → List Term
row_terms [] = []
row_terms (row ∷ more) = (lit Null ∷ meant row) ++ row_terms more

abbrev pub terms_of : Insertion → List Term
terms_of i = row_terms i.rows

abbrev pub width_of : Insertion → ℕ
width_of i = suc (length i.columns)

abbrev rows_of : Insertion → Rows
rows_of i = rows.Values (map (map (λ (p : Part). p.0)) i.rows)

abbrev insert_of : Insertion → Statement
insert_of i = written.Insert conflict.Abort (i.table 0).name i.columns (rows_of i) [] []

-- what is computed of it
pub record IsInsert (i : Insertion) : Type 0 where
  pub says : IsRead i.text i.count (insert_of i) (first i.text)
  pub unstamped : (tree : ℕ) → (i.table tree).stamps.formats ≡ []
  pub filled : (schema : Schema) (tree : ℕ)
      → new_rows schema (i.table tree) (i.count % 65536 + 0) i.columns (rows_of i)
      ≡ Ok (Values (terms_of i) (width_of i))

-- it puts in rows of its values, wherever its table is
abbrev pub InsertMeans : Insertion → Type 0
InsertMeans i = (schema : Schema) (tree : ℕ)
    (found : IsFound schema (i.table 0).name (i.table tree))
    → Means schema i.text i.count (Insert found.at (Values (terms_of i) (width_of i)))

pub insert_means : (i : Insertion) → IsInsert i → InsertMeans i
insert_means i it schema tree found =
    let read = reads i.text i.count (insert_of i) it.says in
    let filled = subst
    (λ n. new_rows schema (i.table tree) (n % 65536 + 0) i.columns (rows_of i)
    ≡ Ok (Values (terms_of i) (width_of i))) read.counted (it.filled schema tree) in
    means schema i.text read.parsed i.count _ read.is read.whole read.counted
    (insert_planned schema (i.table 0).name found.at (i.table tree) found.named found.listed
    read.parsed i.columns (rows_of i) (Values (terms_of i) (width_of i)) read.statement_is
    read.plain (it.unstamped tree) filled)

-- ---- SELECT from one table

-- what it shows of the rows of a table that pass its conditions, in order of some columns
pub record Selection : Type 0 where
  pub text : List ℕ
  pub parameters : List Parameter
  pub table : ℕ → Table
  pub shown : List Column
  pub conditions : List Part
  pub by : List Column

abbrev pub names_of : Selection → List (List ℕ)
names_of s = map (λ (c : Column). c.0) s.shown

abbrev core_of : Selection → Core
core_of s = roll-Core (record {
  distinct = false;
  shown = map (λ (c : Column). shown_column c.0) s.shown;
  from = from_table (s.table 0).name ∷ [];
  filter = test_of s.conditions;
  group = [];
  having = None;
})

abbrev sorts_of : Selection → List Sort
sorts_of s = map (λ (c : Column).
    roll-Sort (record { key = named_column c.0; descending = false; nulls_first = None })) s.by

abbrev select_of : Selection → Selects
select_of s = roll-Select (record {
  with = [];
  first = core_of s;
  others = [];
  order = sorts_of s;
  limit = None;
  offset = None;
})

abbrev project_of : Selection → List Term
project_of s = map (λ (c : Column). col 1 c.1) s.shown

abbrev order_of : Selection → List (Term × Key)
order_of s = map (λ (c : Column). (col 1 c.1, rising)) s.by

-- what it means, if its table is in this tree
abbrev pub query_in : Selection → ℕ → Query
query_in s tree = over_in tree (meant s.conditions) (project_of s) (order_of s)

-- the columns of our tables are compared byte by byte; the rowid, at place 0, has no collation
abbrev collation_of : ℕ → Option Collation
collation_of zero = None
collation_of (suc n) = Some Binary

-- the same, as the resolver gives it with its columns
abbrev draft_in : Selection → ℕ → Draft
draft_in s tree = draft tree (meant s.conditions) (project_of s) (order_of s)

abbrev shown_in : Selection → ℕ → Draft × List (List ℕ) × List (Option Collation)
shown_in s tree = (draft_in s tree, names_of s, map (λ (c : Column). collation_of c.1) s.shown)

abbrev pub IsThere : Selection → Schema → ℕ → Type 0
IsThere s schema tree = IsFound schema (s.table 0).name (s.table tree)

abbrev pub IsAccepted : Selection → Schema → ℕ → Row → Type 0
IsAccepted s schema tree params = accepts_program schema [] (query_in s tree) params ≡ true

-- what is computed of it
pub record IsSelect (s : Selection) : Type 0 where
  pub says : IsRead s.text (length s.parameters) (written.Select (select_of s)) (first s.text)
  pub resolved : (schema : Schema) (tree : ℕ) → IsThere s schema tree
      → named schema (core_of s) (sorts_of s) whole_page ≡ Ok (shown_in s tree)
  pub accepted : (schema : Schema) (tree : ℕ) → IsThere s schema tree
      → IsAccepted s schema tree [] × ForAll s.parameters (IsAccepted s schema tree)

-- it is that query, wherever its table is
abbrev pub SelectMeans : Selection → Type 0
SelectMeans s = (schema : Schema) (tree : ℕ) → IsThere s schema tree
    → Means schema s.text (length s.parameters) (Select (program (query_in s tree)) (names_of s))

-- no rule refuses it
abbrev pub IsNeverRefused : Selection → Schema → ℕ → Trees → Row → Type 0
IsNeverRefused s schema tree trees params = (e : Error)
    → RefusesQuery None (record { schema = schema; trees = trees }) (program (query_in s tree))
    params e → ⊥

abbrev pub SelectNever : Selection → Type 0
SelectNever s = (schema : Schema) (tree : ℕ) → IsThere s schema tree → (trees : Trees)
    → ForAll s.parameters (IsNeverRefused s schema tree trees)

module _ (s : Selection) (it : IsSelect s) where
  pub reads_select : Reads s.text (length s.parameters) (written.Select (select_of s))
  reads_select = reads s.text (length s.parameters) (written.Select (select_of s)) it.says

  ordered : (out-Select (select_of s)).order ≡ sorts_of s
  ordered = ap (λ x. x.order) (out-roll-Select (record {
    with = [];
    first = core_of s;
    others = [];
    order = sorts_of s;
    limit = None;
    offset = None;
  }))

  is_one : IsOne (select_of s) (core_of s) (sorts_of s) (from_table (s.table 0).name)
      (s.table 0).name
  unfolding everything
  is_one = record {
    with_is = refl;
    first_is = refl;
    others_are = refl;
    order_is = ordered;
    limit_is = refl;
    offset_is = refl;
    from_is = refl;
    origin_is = refl;
  }

  pub select_means : SelectMeans s
  select_means schema tree found =
      let read = reads_select in
      means schema s.text read.parsed (length s.parameters) _ read.is read.whole read.counted
      (select_planned schema (select_of s) (core_of s) (sorts_of s) (from_table (s.table 0).name)
      (s.table 0).name is_one (shown_in s tree) (it.resolved schema tree found) read.parsed _
      read.statement_is read.plain
      (program_is schema (draft_in s tree) (it.accepted schema tree found).0))

-- a query of one table that the types accept
pub none_refuses : (schema : Schema) (tree : ℕ) (filter project : List Term)
    (order : List (Term × Key)) (trees : Trees) (params : Row)
    → accepts_program schema [] (over_in tree filter project order) params ≡ true → (e : Error)
    → RefusesQuery None (record { schema = schema; trees = trees })
    (program (over_in tree filter project order)) params e
    → ⊥
unfolding everything
none_refuses schema tree filter project order trees params accepted e (inl refused) =
    true≢false (sym accepted ∙ refused.1)
none_refuses schema tree filter project order trees params accepted e (inr (inl over)) =
    elim over.1 [ inl none ↦ none | inr any ↦ any.4 ]
none_refuses schema tree filter project order trees params accepted e (inr (inr limit)) =
    let no = limit.1 in absurd (cc)

pub select_never : (s : Selection) → IsSelect s → SelectNever s
select_never s it schema tree found trees =
    for_all s.parameters (IsAccepted s schema tree) (IsNeverRefused s schema tree trees)
    (none_refuses schema tree (meant s.conditions) (project_of s) (order_of s) trees)
    (it.accepted schema tree found).1
