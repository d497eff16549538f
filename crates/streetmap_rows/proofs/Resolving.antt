-- What the resolver makes of a statement over one table, wherever the table is in its schema.
use Rattle.std.proofs.Common.{◌≡◌, ℕ, ◌+◌, ◌≤◌, List, [], ◌∷◌, length, Ok, Err, Result, refl, Some, None, Option, true, false, suc, ◌||◌, slice_get, negsuc}
use Rattle.sqlite_ast.specs.declared.Statement.TheVariants as written
use Rattle.sqlite_ast.specs.declared.Conflict.TheVariants as conflict
use Rattle.sqlite_ast.specs.declared.Rows.{Rows}
use Rattle.sqlite_ast.specs.declared.Expr.{Expr}
use Rattle.sqlite_ast.specs.declared.Core.{Core, out-Core}
use Rattle.sqlite_ast.specs.declared.Sort.{Sort}
use Rattle.sqlite_ast.specs.declared.Select.{Select as Selects, out-Select}
use Rattle.sqlite_ast.specs.declared.Source.{Source as From, out-Source}
use Rattle.sqlite_ast.specs.declared.Origin.TheVariants.{Table as Stored}
use Rattle.sqlite_syntax.specs.declared.statement.Parsed.{Parsed}
use Rattle.sqlite.specs.Term.{Term, lit}
use Rattle.sqlite.specs.declared.types.Value.TheVariants.{Int}
use Rattle.sqlite.specs.Table.{Table}
use Rattle.sqlite.specs.Schema.{Schema}
use Rattle.sqlite_schema.specs.Names.{table_named}
use Rattle.sqlite_schema.specs.declared.command.Source.{Source}
use Rattle.sqlite_schema.specs.declared.program.Program.{Program}
use Rattle.sqlite_schema.specs.declared.program.Table.{Table as Let}
use Rattle.sqlite_draft.specs.declared.query.Draft.{Draft}
use Rattle.sqlite_draft.specs.Query.{query_of}
use Rattle.sqlite_typing.specs.Types.{accepts_program}
use Rattle.sqlite.specs.Listing.{understood, reads_listing}
use Rattle.sqlite.specs.State.{shows_rows, is_pragma}
use Rattle.sqlite.specs.Effect.{is_query}
use Rattle.sqlite.proofs.Callers.{command_of, IsPlain}
use Rattle.sqlite.specs.Command.{Command}
use Rattle.sqlite.specs.Command.TheVariants.{Insert, Select, Delete}
use Rattle.sqlite_resolve.specs.declared.compiled.Compiled.{Compiled}
use Rattle.sqlite_resolve.specs.declared.error.CompileError.{CompileError}
use Rattle.sqlite_resolve.specs.Lowering.{Checked, and_then}
use Rattle.sqlite_resolve.specs.Compile.{first, planned, compiled, meaning, returning, timed, command, insert, insert_or_abort, delete, read, on_table}
use Rattle.sqlite_resolve.specs.Compile.{formats_of, new_rows, shows, small, with_command}
use Rattle.sqlite_resolve.specs.Write.{deleted}
use Rattle.sqlite_resolve.specs.Select.{named, paging, constant_or}
use Rattle.sqlite_resolve.specs.Terms.{number}
use Rattle.sqlite_resolve.specs.Program.{Shown, Building, query, query_to, level, with, whole, alone, single, sources, source, viewing, program}

module _ (schema : Schema) (name : List ℕ) (at : ℕ) (table : Table) (named_at : table_named schema name ≡ Some at)
    (listed : slice_get schema.tables at ≡ Some table) where
  on_it : (f : ℕ → Table → Checked Command) → on_table schema name f ≡ f at table
  on_it f = rw (named_at, listed) refl

  formats_are : formats_of schema name ≡ table.stamps.formats
  formats_are = rw (named_at, listed) refl

  insert_command : (base : ℕ) (columns : List (List ℕ)) (rows : Rows) → command schema [] base (written.Insert conflict.Abort name columns rows [] [])
      ≡ and_then (new_rows schema table base columns rows) (λ s. Ok (Insert at s))
  unfolding command insert_or_abort insert
  insert_command base columns rows = on_it (λ n t. and_then (new_rows schema t base columns rows) (λ s. Ok (Insert n s)))

  delete_command : (base : ℕ) (test : Option Expr) → command schema [] base (written.Delete name test [])
      ≡ and_then (deleted schema at table test) (λ d. and_then (program schema [] d) (λ p. Ok (Delete at p)))
  unfolding command delete
  delete_command base test = on_it (λ n t. and_then (deleted schema n t test) (λ d. and_then (program schema [] d) (λ p. Ok (Delete n p))))

  -- an INSERT of values, by what its rows mean
  pub insert_planned : (p : Parsed) (columns : List (List ℕ)) (rows : Rows) (s : Source) → p.statement ≡ written.Insert conflict.Abort name columns rows [] [] →
      p.formats ≡ [] → table.stamps.formats ≡ []
      → new_rows schema table (small p.names + 0) columns rows ≡ Ok s → planned schema p ≡ Ok ([], (Insert at s, None))
  unfolding planned meaning timed returning shows
  insert_planned p columns rows s is plain unstamped h = rw (is, plain, formats_are, unstamped, insert_command (small p.names + 0) columns rows, h) refl

  -- a DELETE, by the query of its rows
  pub delete_planned : (p : Parsed) (test : Option Expr) (d : Draft) (q : Program) → p.statement ≡ written.Delete name test [] → p.formats ≡ [] →
      deleted schema at table test ≡ Ok d → program schema [] d ≡ Ok q → planned schema p ≡ Ok ([], (Delete at q, None))
  unfolding planned meaning timed returning shows
  delete_planned p test d q is plain h k = rw (is, plain, delete_command (small p.names + 0) test, h, k) refl

-- ---- a query of one table

-- no LIMIT and no OFFSET
abbrev pub whole_page : Term × Term
whole_page = (lit (Int (negsuc 0)), number 0)

-- one SELECT from one table
pub record IsOne (s : Selects) (core : Core) (order : List Sort) (from : From) (name : List ℕ) : Type 0 where
  pub with_is : (out-Select s).with ≡ []
  pub first_is : (out-Select s).first ≡ core
  pub others_are : (out-Select s).others ≡ []
  pub order_is : (out-Select s).order ≡ order
  pub limit_is : (out-Select s).limit ≡ None
  pub offset_is : (out-Select s).offset ≡ None
  pub from_is : (out-Core core).from ≡ from ∷ []
  pub origin_is : (out-Source from).origin ≡ Stored name

module _ (again : Schema → Selects → Building Shown) where
  viewing_is : (outer schema : Schema) (core : Core) (order : List Sort) (page : Term × Term) (n : ℕ) (lets : List Let) (shown : Shown) →
      named schema core order page ≡ Ok shown → viewing again outer core order page (suc n) schema lets ≡ Ok ((shown, schema), lets)
  unfolding viewing
  viewing_is outer schema core order page n lets shown h = rw h refl

  single_is : (schema : Schema) (core : Core) (order : List Sort) (page : Term × Term) (lets : List Let) (shown : Shown) (from : From) (name : List ℕ)
      → (out-Core core).from ≡ from ∷ [] → (out-Source from).origin ≡ Stored name → named schema core order page ≡ Ok shown →
      single again schema core order page lets ≡ Ok ((shown, schema), lets)
  unfolding single sources source
  single_is schema core order page lets shown from name one origin h = rw (one, origin) (viewing_is schema schema core order page 63 lets shown h)

  level_is : (schema : Schema) (s : Selects) (core : Core) (order : List Sort) (from : From) (name : List ℕ) (lets : List Let) (shown : Shown) →
      IsOne s core order from name → named schema core order whole_page ≡ Ok shown → level again schema s lets ≡ Ok (shown, lets)
  unfolding level with whole paging constant_or alone
  level_is schema s core order from name lets shown it h = rw (
    it.with_is,
    it.limit_is,
    it.offset_is,
    it.others_are,
    it.order_is,
    it.first_is,
    single_is schema core order whole_page lets shown from name it.from_is it.origin_is h,
  ) refl

module _ (schema : Schema) (s : Selects) (core : Core) (order : List Sort) (from : From) (name : List ℕ) (it : IsOne s core order from name) (shown : Shown)
    (h : named schema core order whole_page ≡ Ok shown) where
  query_is : query schema s ≡ Ok (shown, [])
  unfolding query query_to
  query_is = level_is (query_to 15) schema s core order from name [] shown it h

  -- a SELECT, by its columns and its conditions
  pub select_planned : (p : Parsed) (q : Program) → p.statement ≡ written.Select s → p.formats ≡ [] → program schema [] shown.0 ≡ Ok q → planned schema p
      ≡ Ok ([], (Select q shown.1, None))
  unfolding planned meaning timed returning command read
  select_planned p q is plain k = rw (is, plain, query_is, k) refl

-- ---- a text

-- the program of a draft that the types accept
pub program_is : (schema : Schema) (d : Draft) → accepts_program schema [] (query_of d) [] ≡ true → program schema [] d
    ≡ Ok (record { lets = []; body = query_of d })
unfolding program
program_is schema d h = rw h refl

-- The text means this command, with this number of parameters and no RETURNING, clock or listing.
pub record Means (schema : Schema) (sql : List ℕ) (count : ℕ) (k : Command) : Type 0 where
  pub compiled_as : Compiled
  pub is : compiled schema sql ≡ Ok compiled_as
  pub command_is : compiled_as.command ≡ k
  pub plain_is : (compiled_as.returning ≡ None) × (compiled_as.formats ≡ [])
  pub whole_is : length sql ≤ compiled_as.tail
  pub count_is : count ≡ length compiled_as.names

pub means : (schema : Schema) (sql : List ℕ) (p : Parsed) (count : ℕ) (k : Command) → first sql ≡ Ok p → length sql ≤ p.tail → count ≡ length p.names →
    planned schema p ≡ Ok ([], (k, None)) → Means schema sql count k
unfolding compiled
means schema sql p count k read whole counted h = record {
  compiled_as = with_command p ([], (k, None));
  is = rw (read, h) refl;
  command_is = refl;
  plain_is =
      (refl, refl);
  whole_is = whole;
  count_is = counted;
}

module _ (schema : Schema) (sql : List ℕ) (count : ℕ) (k : Command) (it : Means schema sql count k) where
  pub unlisted : reads_listing schema sql ≡ false
  unlisted = rw (it.is) refl

  pub understood_is : understood schema sql ≡ Ok it.compiled_as
  unfolding understood
  understood_is = rw (it.is) refl

  pub command_is : command_of (understood schema sql) ≡ k
  command_is = rw understood_is it.command_is

  pub is_plain : IsPlain (understood schema sql)
  is_plain = rw understood_is it.plain_is

-- it is one statement with this number of parameters
abbrev pub IsWhole : List ℕ → ℕ → Result Compiled CompileError → Type 0
IsWhole sql params (Ok c) = (length sql ≤ c.tail) × (params ≡ length c.names)
IsWhole sql params (Err e) = ⊥

-- and it shows no rows
abbrev pub IsFit : List ℕ → ℕ → Result Compiled CompileError → Type 0
IsFit sql params (Ok c) = (length sql ≤ c.tail) × (params ≡ length c.names) × (shows_rows false c ≡ false)
IsFit sql params (Err e) = ⊥

module _ (schema : Schema) (sql : List ℕ) (count : ℕ) (k : Command) (it : Means schema sql count k) where
  pub is_whole : IsWhole sql count (understood schema sql)
  is_whole = rw (understood_is schema sql count k it) (it.whole_is, it.count_is)

  pub is_fit : (is_query k || (is_pragma k || false)) ≡ false → IsFit sql count (understood schema sql)
  is_fit quiet = rw (understood_is schema sql count k it) (it.whole_is, it.count_is, rw (it.command_is, it.plain_is.0) quiet)
