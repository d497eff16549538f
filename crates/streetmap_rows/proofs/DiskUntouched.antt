-- What a statement is refused for says nothing of the disk.
use Rattle.std.proofs.Common.{◌≡◌, ◌⊎◌, inl, inr, ℕ, ℤ, Bool, true, false, if◌then◌else◌, List, []}
use Rattle.std.proofs.Common.{◌∷◌, Option, None, Some, option_map, Err, refl, ap, subst, ◌∙◌}
use Rattle.std.specs.Prelude.{MatchBool}
use Rattle.sqlite.specs.declared.error.Error.{Error}
use Rattle.sqlite.specs.declared.error.Error.TheVariants.{SqliteFailure, InvalidQuery}
use Rattle.sqlite.specs.declared.error.ErrorCode.TheVariants.{NoRowid}
use Rattle.sqlite.specs.Order.{Row}
use Rattle.sqlite.specs.Tree.{Trees}
use Rattle.sqlite.specs.Schema.{Schema}
use Rattle.sqlite.specs.Command.{Command}
use Rattle.sqlite.specs.Command.TheVariants.{Select, Insert, InsertOr, Update, Delete, CreateTable}
use Rattle.sqlite.specs.Command.TheVariants.{CreateIndex, DropTable, DropIndex, Rows, Begin, Commit}
use Rattle.sqlite.specs.Command.TheVariants.{Rollback, Savepoint, Release, RollbackTo, Nothing}
use Rattle.sqlite.specs.Command.TheVariants.{CreateView, DropView}
use Rattle.sqlite.specs.Source.{Source}
use Rattle.sqlite.specs.Source.TheVariants.{Values, Query}
use Rattle.sqlite_schema.specs.declared.command.Returning.{Returning}
use Rattle.sqlite_schema.specs.declared.command.Conflict.{Conflict}
use Rattle.sqlite_schema.specs.declared.command.Conflict.TheVariants.{Abort, Ignore, Replace}
use Rattle.sqlite_schema.specs.declared.command.Upsert.{Upsert}
use Rattle.sqlite_schema.specs.declared.program.Program.{Program}
use Rattle.sqlite_schema.specs.declared.schema.Keys.{Keys}
use Rattle.sqlite_schema.specs.declared.schema.Table.{Table}
use Rattle.sqlite_schema.specs.declared.schema.Among.{Among}
use Rattle.sqlite_rules.specs.declared.error.Refusal.{Refusal}
use Rattle.sqlite_rules.specs.declared.error.Refusal.TheVariants as rule
use Rattle.sqlite_catalog.specs.declared.error.Refusal as alter
use Rattle.sqlite_catalog.specs.declared.error.Refusal.TheVariants as why
use Rattle.sqlite.specs.Edit.{Edit, edit_of}
use Rattle.sqlite_rules.specs.declared.error.Rowids.TheVariants.{Given}
use Rattle.sqlite_rules.specs.Calls.{ids_of}
use Rattle.std.specs.Option.{option_to_list}
use Rattle.sqlite.specs.Effect.{Database, RefusesQuery, RefusesSource, RefusesToAlter, IsNoText}
use Rattle.sqlite.specs.Effect.{edit_error, alter_error}
use Rattle.sqlite.specs.Rows.{Part, Gives, Refuses, Then, Queried, Sourced, Edited, Written, Task}
use Rattle.sqlite.specs.Rows.{sequence, CounterIn, Counter, CountsIn, Counts, counting, Updates}
use Rattle.sqlite.specs.Rows.{Deletes, Inserts, Puts, Clears, Resolves, Meets, Upserts, Judged}
use Rattle.sqlite.specs.Rows.{Tries, TriesEach, InsertsOr, passes_over}
use Rattle.sqlite.specs.Does.{Tested, AtPlace, MakesTable, MakesSequence, MakesIndex, MakesView}
use Rattle.sqlite.specs.Does.{Leaves, Counted, Defines, IsKeptAside, Shows, Returns, Concludes}
use Rattle.sqlite.specs.Does.{WritesRows, OnRows, Empties, UncountsIn, HoldWithout, Drops, OnTable}
use Rattle.sqlite.specs.Does.{Redefines, Does, Tally}
use Rattle.sqlite.specs.declared.run.Mode.{Mode}
use Rattle.sqlite_schema.specs.Rules.{Refers}
use Rattle.sqlite_schema.specs.declared.schema.Index.{Index}
use Rattle.sqlite_catalog.specs.Calls.{RefusesToDropIndex}
use Rattle.sqlite_schema.specs.declared.schema.View.{View}
use Rattle.sqlite_catalog.specs.Change.{without_table, without_view, without_index}
use Rattle.streetmap_rows.specs.Failures.{is_disk_error}

-- a part whose refusals say nothing of the disk
pub record NoDiskErrors {A : Type 0} (P : Part A) : Type 0 where
  pub no_disk_errors : (e : Error) → P (Err (Some e)) → is_disk_error e ≡ false

gives : {A : Type 0} {a : A} → NoDiskErrors (Gives a)
gives = record { no_disk_errors = λ e h. absurd (cc) }

refuses : {A : Type 0} (e : Error) → is_disk_error e ≡ false → NoDiskErrors (Refuses {A = A} e)
refuses e not_of_disk = record { no_disk_errors = λ f h. let same : f ≡ e = cc in ap is_disk_error same ∙ not_of_disk }

invalid : {A : Type 0} → NoDiskErrors (Refuses {A = A} InvalidQuery)
invalid = refuses InvalidQuery refl

either : {A : Type 0} {P Q : Part A} (b : Bool) → NoDiskErrors P → NoDiskErrors Q
    → NoDiskErrors (λ out. MatchBool b (P out) (Q out))
either true p q = record { no_disk_errors = p.no_disk_errors }
either false p q = record { no_disk_errors = q.no_disk_errors }

next : {A B : Type 0} {First : Part A} {Next : A → Part B} → NoDiskErrors First
    → ((a : A) → NoDiskErrors (Next a)) → NoDiskErrors (Then First Next)
next {First} {Next} first more = record { no_disk_errors = by }
  where
    by : (e : Error) → Then First Next (Err (Some e)) → is_disk_error e ≡ false
    by e (inl stopped) = first.no_disk_errors e (subst (λ x. First (Err x)) (let same : stopped.0 ≡ Some e = cc in same) stopped.1)
    by e (inr went) = (more went.0).no_disk_errors e went.2

-- ---- the names of refusals

query : (limit : Option ℕ) (db : Database) (q : Program) (params : Row) (e : Error)
    → RefusesQuery limit db q params e → is_disk_error e ≡ false
query limit db q params e (inl mismatch) = ap is_disk_error mismatch.0
query limit db q params e (inr (inl overflow)) = ap is_disk_error overflow.0
query limit db q params e (inr (inr steps)) = ap is_disk_error steps.0

pub read_query : (limit : Option ℕ) (db : Database) (q : Program) (params : Row) (e : Error)
    → RefusesQuery limit db q params e → is_disk_error e ≡ false
read_query = query

edit_not_of_disk : (r : Refusal) → is_disk_error (edit_error r) ≡ false
edit_not_of_disk (rule.Violates rule) = refl
edit_not_of_disk rule.Mismatch = refl
edit_not_of_disk rule.BadReference = refl
edit_not_of_disk rule.NoRowid = refl
edit_not_of_disk rule.TooDeep = refl

alter_not_of_disk : (r : alter.Refusal) → is_disk_error (alter_error r) ≡ false
alter_not_of_disk (why.Invalid e) = refl
alter_not_of_disk why.NameTaken = refl
alter_not_of_disk why.BadName = refl
alter_not_of_disk why.BadKey = refl
alter_not_of_disk why.BadText = refl
alter_not_of_disk why.TooBig = refl
alter_not_of_disk (why.Violates rule) = refl

altered : (Refused : alter.Refusal → Type 0) (e : Error) → RefusesToAlter Refused e
    → is_disk_error e ≡ false
altered Refused e h = ap is_disk_error h.2 ∙ alter_not_of_disk h.0

text_or : (text : List ℕ) (Refused : alter.Refusal → Type 0) (e : Error)
    → IsNoText text e ⊎ RefusesToAlter Refused e → is_disk_error e ≡ false
text_or text Refused e (inl bad) = ap is_disk_error bad.1
text_or text Refused e (inr refused) = altered Refused e refused

-- ---- the parts of a write

queried : (limit : Option ℕ) (db : Database) (q : Program) (params : Row)
    → NoDiskErrors (Queried limit db q params)
queried limit db q params = record { no_disk_errors = query limit db q params }

source : (limit : Option ℕ) (db : Database) (params : Row) (from : Source) (e : Error)
    → RefusesSource limit db params from e → is_disk_error e ≡ false
source limit db params (Values terms width) e (inl mismatch) = ap is_disk_error mismatch.0
source limit db params (Values terms width) e (inr steps) = ap is_disk_error steps.0
source limit db params (Query q) e h = query limit db q params e h

sourced : (limit : Option ℕ) (db : Database) (params : Row) (from : Source)
    → NoDiskErrors (Sourced limit db params from)
sourced limit db params from = record { no_disk_errors = source limit db params from }

edited : (schema : Schema) (keys : Keys) (db : Trees) (edit : Edit)
    → NoDiskErrors (Edited schema keys db edit)
edited schema keys db edit = record { no_disk_errors = λ e h. named e h.0 h.2 }
  where
    named : (e : Error) (r : Option Refusal) → Some e ≡ option_map edit_error r
        → is_disk_error e ≡ false
    named e None is = absurd (cc)
    named e (Some r) is = let same : e ≡ edit_error r = cc in ap is_disk_error same ∙ edit_not_of_disk r

module _ (task : Task) where
  counter_in : (db : Trees) (o : Option Table) → NoDiskErrors (CounterIn task db o)
  counter_in db None = invalid
  counter_in db (Some counters) = gives

  counter : (db : Trees) → NoDiskErrors (Counter task db)
  counter db = either task.table.is_counted (counter_in db (sequence task.schema)) gives

  counts_in : (db : Trees) (row : Option Row) (top : ℤ) (o : Option Table)
      → NoDiskErrors (CountsIn task db row top o)
  counts_in db row top None = invalid
  counts_in db row top (Some counters) = edited task.schema task.keys db (counting db task.table counters top row)

  counts : (db : Trees) (row : Option Row) (top : ℤ) → NoDiskErrors (Counts task db row top)
  counts db row top = either _ (counts_in db row top (sequence task.schema)) gives

  updates : (q : Program) (given : Row) (db : Trees) → NoDiskErrors (Updates task q given db)
  updates q given db = next (queried task.limit _ q given) (λ rows. next (edited task.schema task.keys db _) (λ after. gives))

  deletes : (q : Program) (db : Trees) → NoDiskErrors (Deletes task q db)
  deletes q db = next (queried task.limit _ q task.params) (λ rows. next (edited task.schema task.keys db _) (λ after. gives))

  inserts : (from : Source) (db : Trees) → NoDiskErrors (Inserts task from db)
  inserts from db = next (sourced task.limit _ _ from) (λ rows. next (counter db) (λ row.
      next (edited task.schema task.keys db _) (λ mid. next (counts mid row _) (λ after. gives))))

  puts : (new : Row) (db : Trees) → NoDiskErrors (Puts task new db)
  puts new db = next (edited task.schema task.keys db _) (λ after. gives)

  clears : (way : Conflict) (new : Row) (db : Trees) (found : List Row)
      → NoDiskErrors (Clears task way new db found)
  clears way new db [] = puts new db
  clears Abort new db (x ∷ more) = puts new db
  clears Ignore new db (x ∷ more) = gives
  clears Replace new db (x ∷ more) = next (edited task.schema task.keys db _) (λ after. puts new after)

  resolves : (new : Row) (db : Trees) (there : Row) (o : Option Program)
      → NoDiskErrors (Resolves task new db there o)
  resolves new db there None = gives
  resolves new db there (Some q) = updates q _ db

  meets : (Otherwise : Part Written) (new : Row) (db : Trees) (clause : Upsert) (found : List Row)
      → NoDiskErrors Otherwise → NoDiskErrors (Meets task Otherwise new db clause found)
  meets Otherwise new db clause [] not_of_disk = not_of_disk
  meets Otherwise new db clause (there ∷ more) not_of_disk = resolves new db there clause.update

  upserts : (way : Conflict) (new : Row) (db : Trees) (clauses : List Upsert)
      → NoDiskErrors (Upserts task way new db clauses)
  upserts way new db [] = record { no_disk_errors = λ e h. (clears way new db h.0).no_disk_errors e h.2 }
  upserts way new db (clause ∷ more) = record {
    no_disk_errors = λ e h. (meets (Upserts task way new db more) new db clause h.0
        (upserts way new db more)).no_disk_errors e h.2;
  }

  judged : (way : Conflict) (clauses : List Upsert) (new : Row) (db : Trees) (verdict : Option Refusal)
      → NoDiskErrors (Judged task way clauses new db verdict)
  judged way clauses new db None = upserts way new db clauses
  judged way clauses new db (Some r) = either (passes_over way r) gives (refuses _ (edit_not_of_disk r))

  tries : (way : Conflict) (clauses : List Upsert) (new : Row) (db : Trees)
      → NoDiskErrors (Tries task way clauses new db)
  tries way clauses new db = record {
    no_disk_errors = λ e h. elim h [
      | inl full ↦ let same : e ≡ SqliteFailure NoRowid = let is = full.1 in cc in
          ap is_disk_error same
      | inr tried ↦ (judged way clauses new db tried.0).no_disk_errors e tried.2
    ];
  }

  tries_each : (way : Conflict) (clauses : List Upsert) (rows : List Row) (top : ℤ) (done : Written)
      → NoDiskErrors (TriesEach task way clauses rows top done)
  tries_each way clauses [] top done = gives
  tries_each way clauses (source ∷ more) top done = next (tries way clauses _ done.trees) (λ one. tries_each way clauses more _ _)

  inserts_or : (way : Conflict) (clauses : List Upsert) (from : Source) (db : Trees)
      → NoDiskErrors (InsertsOr task way clauses from db)
  inserts_or way clauses from db =
      next (sourced task.limit _ _ from) (λ rows. next (counter db) (λ row. next (tries_each way clauses rows _ _)
      (λ done. next (counts done.0.trees row done.1) (λ after. gives))))

  abbrev reported : Option Error → Bool
  reported None = false
  reported (Some f) = is_disk_error f

  tested : (mode : Mode) (Holds : Among → Type 0) → NoDiskErrors (Tested mode Holds)
  tested mode Holds = record { no_disk_errors = λ e h. ap reported h.1 }

  counted : (limit : Option ℕ) (rows : List Row) → NoDiskErrors (Counted limit rows)
  counted limit rows = record { no_disk_errors = λ e h. ap reported h.1 }

  shows : (what : Returning) (now : Trees) (rows : List Row) → NoDiskErrors (Shows task what now rows)
  shows what now [] = gives
  shows what now (row ∷ more) = next (sourced task.limit _ _ what.row) (λ first. next (shows what now more) (λ others. gives))

  returns : (w : Written) (what : Option Returning) → NoDiskErrors (Returns task w what)
  returns w None = gives
  returns w (Some what) = next (shows what w.trees w.rows) (λ rows. next (counted task.limit rows) (λ _. gives))

  concludes : (mode : Mode) (returning : Option Returning) (w : Written)
      → NoDiskErrors (Concludes task mode returning w)
  concludes mode returning w = next (tested mode (λ among. Refers among task.schema w.trees)) (λ in_doubt. next (returns w returning) (λ rows. gives))

  writes_rows : (db : Trees) (command : Command) → NoDiskErrors (WritesRows task db command)
  writes_rows db (Insert at from) = inserts from db
  writes_rows db (InsertOr at way from clauses) = inserts_or way clauses from db
  writes_rows db (Update at q) = updates q task.params db
  writes_rows db (Delete at q) = deletes q db
  writes_rows db (Select q names) = invalid
  writes_rows db CreateTable = invalid
  writes_rows db (CreateIndex at) = invalid
  writes_rows db (DropTable at) = invalid
  writes_rows db (DropIndex at) = invalid
  writes_rows db Begin = invalid
  writes_rows db Commit = invalid
  writes_rows db Rollback = invalid
  writes_rows db (Savepoint name) = invalid
  writes_rows db (Release name) = invalid
  writes_rows db (RollbackTo name) = invalid
  writes_rows db (Rows values width names) = invalid
  writes_rows db Nothing = invalid
  writes_rows db CreateView = invalid
  writes_rows db (DropView at) = invalid

  on_rows : (mode : Mode) (returning : Option Returning) (command : Command) (db : Trees)
      → NoDiskErrors (OnRows task mode returning command db)
  on_rows mode returning command db = next (writes_rows db command) (λ w. concludes mode returning w)

  empties : (db : Trees) → NoDiskErrors (Empties task db)
  empties db = either _ (edited task.schema task.keys db (edit_of db task.table (ids_of (db task.table.tree)) Given 0 [])) gives

  uncounts_in : (db : Trees) (o : Option Table) → NoDiskErrors (UncountsIn task db o)
  uncounts_in db None = gives
  uncounts_in db (Some counters) = next (counter db) (λ row. edited task.schema task.keys db (edit_of db counters (ids_of (option_to_list row)) Given 0 []))

  left_out : (schema : Schema) (db : Trees) → NoDiskErrors (Leaves schema db (λ _. ⊥))
  left_out schema db = record { no_disk_errors = λ e h. absurd h }

  drops : (mode : Mode) (db : Trees) → NoDiskErrors (Drops task mode db)
  drops mode db = next (empties db) (λ emptied. next (uncounts_in emptied (if task.table.is_counted then sequence task.schema else None))
      (λ now. next (tested mode (HoldWithout task now)) (λ in_doubt. next (left_out (without_table task.schema task.table.tree) now) (λ after. gives))))

-- ---- a statement

at_place : {X A : Type 0} {P : X → Part A} (o : Option X) → ((x : X) → NoDiskErrors (P x))
    → NoDiskErrors (AtPlace P o)
at_place None not_of_disk = invalid
at_place (Some x) not_of_disk = not_of_disk x

makes_table : (text : List ℕ) (db : Database) → NoDiskErrors (MakesTable text db)
makes_table text db = record { no_disk_errors = text_or text _ }

makes_sequence : (db : Database) → NoDiskErrors (MakesSequence db)
makes_sequence db = either _ (makes_table _ db) gives

makes_index : (text : List ℕ) (db : Database) (table : Table) → NoDiskErrors (MakesIndex text db table)
makes_index text db table = record { no_disk_errors = text_or text _ }

makes_view : (text : List ℕ) (db : Database) → NoDiskErrors (MakesView text db)
makes_view text db = record { no_disk_errors = text_or text _ }

aside : (schema : Schema) (db : Trees) (view : View) → NoDiskErrors (Leaves schema db (IsKeptAside view))
aside schema db view = record { no_disk_errors = λ e h. ap is_disk_error h.1 }

kept_index : (schema : Schema) (db : Trees) (index : Index)
    → NoDiskErrors (Leaves schema db (RefusesToAlter (RefusesToDropIndex index)))
kept_index schema db index = record { no_disk_errors = altered (RefusesToDropIndex index) }

defines : (mode : Mode) {Makes : Part Database} → NoDiskErrors Makes → NoDiskErrors (Defines mode Makes)
defines mode not_of_disk = next not_of_disk (λ after. gives)

module _ (limit : Option ℕ) (mode : Mode) (params : Row) (db : Database) where
  on_table : (at : ℕ) {P : Task → Part (Tally × Database)} → ((task : Task) → NoDiskErrors (P task))
      → NoDiskErrors (OnTable limit mode params db at P)
  on_table at not_of_disk = at_place _ (λ table. not_of_disk _)

  redefines : (text : List ℕ) (command : Command)
      → NoDiskErrors (Redefines limit mode params db text command)
  redefines text CreateTable = defines mode (next (makes_table text db) (λ after. makes_sequence after))
  redefines text (CreateIndex at) = on_table at (λ task. defines mode (makes_index text db task.table))
  redefines text CreateView = defines mode (makes_view text db)
  redefines text (DropTable at) = on_table at (λ task. drops task mode db.trees)
  redefines text (DropIndex at) = at_place _ (λ index. defines mode (kept_index (without_index db.schema index.tree) db.trees index))
  redefines text (DropView at) = at_place _ (λ view. defines mode (aside (without_view db.schema view.tree) db.trees view))
  redefines text (Select q names) = invalid
  redefines text (Insert at from) = invalid
  redefines text (InsertOr at way from clauses) = invalid
  redefines text (Update at q) = invalid
  redefines text (Delete at q) = invalid
  redefines text Begin = invalid
  redefines text Commit = invalid
  redefines text Rollback = invalid
  redefines text (Savepoint name) = invalid
  redefines text (Release name) = invalid
  redefines text (RollbackTo name) = invalid
  redefines text (Rows values width names) = invalid
  redefines text Nothing = invalid

  pub does : (text : List ℕ) (returning : Option Returning) (command : Command)
      → NoDiskErrors (Does limit mode params db text returning command)
  does text returning (Insert at from) = on_table at (λ task. on_rows task mode returning (Insert at from) db.trees)
  does text returning (InsertOr at way from clauses) = on_table at (λ task. on_rows task mode returning (InsertOr at way from clauses) db.trees)
  does text returning (Update at q) = on_table at (λ task. on_rows task mode returning (Update at q) db.trees)
  does text returning (Delete at q) = on_table at (λ task. on_rows task mode returning (Delete at q) db.trees)
  does text returning CreateTable = either _ invalid (redefines text CreateTable)
  does text returning (CreateIndex at) = either _ invalid (redefines text (CreateIndex at))
  does text returning CreateView = either _ invalid (redefines text CreateView)
  does text returning (DropTable at) = either _ invalid (redefines text (DropTable at))
  does text returning (DropIndex at) = either _ invalid (redefines text (DropIndex at))
  does text returning (DropView at) = either _ invalid (redefines text (DropView at))
  does text returning (Select q names) = either _ invalid invalid
  does text returning Begin = either _ invalid invalid
  does text returning Commit = either _ invalid invalid
  does text returning Rollback = either _ invalid invalid
  does text returning (Savepoint name) = either _ invalid invalid
  does text returning (Release name) = either _ invalid invalid
  does text returning (RollbackTo name) = either _ invalid invalid
  does text returning (Rows values width names) = either _ invalid invalid
  does text returning Nothing = either _ invalid invalid
