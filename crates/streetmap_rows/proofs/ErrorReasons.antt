-- Where the error of a statement comes from, whatever its text and the tables are.
use Rattle.std.proofs.Common.{◌≡◌, ◌⊎◌, inl, inr, ℕ, ◌≤◌, Bool, false, List, Option, None, Some}
use Rattle.std.proofs.Common.{Result, Ok, Err, IfErr, IsTrue, sym, ap, subst, arith}
use Rattle.std.proofs.lemmas.Bool.{cases_Bool}
use Rattle.sqlite.specs.declared.error.Error.{Error}
use Rattle.sqlite.specs.declared.error.Error.TheVariants.{SqliteFailure, ExecuteReturnedResults}
use Rattle.sqlite.specs.declared.error.ErrorCode.TheVariants.{TransactionState}
use Rattle.sqlite.specs.Order.{Row}
use Rattle.sqlite.specs.Tree.{Trees}
use Rattle.sqlite.specs.Command.{Command}
use Rattle.sqlite.specs.Command.TheVariants.{Select, Insert, InsertOr, Update, Delete, CreateTable}
use Rattle.sqlite.specs.Command.TheVariants.{CreateIndex, DropTable, DropIndex, Rows, Begin, Commit}
use Rattle.sqlite.specs.Command.TheVariants.{Rollback, Savepoint, Release, RollbackTo, Nothing}
use Rattle.sqlite.specs.Command.TheVariants.{CreateView, DropView}
use Rattle.sqlite_schema.specs.declared.command.Returning.{Returning}
use Rattle.sqlite_resolve.specs.declared.compiled.Compiled.{Compiled}
use Rattle.sqlite_trees.specs.declared.error.StoreError.{StoreError}
use Rattle.sqlite_trees.specs.declared.error.StoreError.TheVariants as store
use Rattle.sqlite.specs.Effect.{Database, RefusesToRead}
use Rattle.sqlite_disk.specs.Disk.{MoreFaults}
use Rattle.sqlite.specs.State.{State as Seen, HasCleanDisk, Survives, store_error, HasCause, Fails}
use Rattle.sqlite.specs.State.{IsMisplaced, IsNoStatement, IsNotRun, RunsCommand, RunsAlone}
use Rattle.sqlite.specs.State.{ExecutesIn, ExecutesInsideIn, FailsToShow, FailsToQuery, IsTooLate}
use Rattle.sqlite.specs.State.{mode_of, shows_rows, ExecutesInside, IsUnchanged}
use Rattle.streetmap_rows.specs.Failures.{is_disk_error, IsOfStore, IsNotDiskError, HasReason}
use Rattle.streetmap_rows.proofs.StoreErrors.{failure_is}
use Rattle.streetmap_rows.specs.CallEnds.{IsCause, Settles, StopsFor}
use Rattle.streetmap_rows.specs.declared.failures.Stop.{Stop}
use Rattle.streetmap_rows.specs.declared.failures.Stop.TheVariants as stop
use Rattle.streetmap_rows.specs.declared.failures.Shut.{Shut}
use Rattle.streetmap_rows.specs.declared.failures.Shut.TheVariants as shut
use Rattle.sqlite.specs.Reading.{IsReadError}
use Rattle.sqlite.specs.declared.types.Value.{Value}
use Rattle.streetmap_rows.proofs.DiskUntouched.{does, read_query}

-- a cell that cannot be read says nothing of the disk
pub read_not_of_disk : (at : ℕ) (value : Value) (e : Error) → IsReadError at value e → IsNotDiskError e
read_not_of_disk at value e (inl is) = ap is_disk_error is
read_not_of_disk at value e (inr (inl is)) = ap is_disk_error is
read_not_of_disk at value e (inr (inr (inl is))) = ap is_disk_error is
read_not_of_disk at value e (inr (inr (inr (inl is)))) = ap is_disk_error is
read_not_of_disk at value e (inr (inr (inr (inr is)))) = ap is_disk_error is

-- an error that says nothing of the disk
pub other : (old new : Seen) (e : Error) → IsNotDiskError e → HasReason old new e
other old new e not_of_disk live reports = absurd (let never = subst IsTrue not_of_disk reports in cc)

module _ (old new : Seen) where
  pub failed : (too_big : Type 0) (e : Error) → Fails old new too_big e → HasReason old new e
  failed too_big e h = by h.0 h.1 h.2
    where
      by : (cause : StoreError) → e ≡ store_error cause → HasCause old new too_big cause
          → HasReason old new e
      by store.OutOfMemory is has = other old new e (ap is_disk_error is)
      by store.Io is has = λ live reports. has
      by store.Corrupt is has = λ live reports. has
      by store.Full is has = λ live reports. has
      by store.Broken is has = λ live reports. absurd (let never = subst IsTrue has live in cc)
      by store.Unstorable is has = other old new e (ap is_disk_error is)

  no_statement : (sql : List ℕ) (params : Row) (e : Error) → IsNoStatement old sql params e
      → is_disk_error e ≡ false
  no_statement sql params e (inl missing) = ap is_disk_error missing.2
  no_statement sql params e (inr other) = elim other.2 [
    | inl cut ↦ ap is_disk_error cut.1
    | inr more ↦ elim more
        [ inl few ↦ ap is_disk_error few.1 | inr timeless ↦ ap is_disk_error timeless.1 ]
  ]

  pub not_run : (sql : List ℕ) (params : Row) (e : Error) → IsNotRun old new sql params e
      → HasReason old new e
  unfolding IsNotRun
  not_run sql params e (inl refused) = other old new e (no_statement sql params e refused.0)
  not_run sql params e (inr failing) = failed ⊥ e failing

  misplaced : (command : Command) (e : Error) → IsMisplaced old command e → is_disk_error e ≡ false
  misplaced command e (inl state) = ap is_disk_error state.0
  misplaced command e (inr none) = ap is_disk_error none.0

  ran : (sql : List ℕ) (c : Compiled) (params : Row) (e : Error)
      → RunsCommand old new sql c params (Err e) → HasReason old new e
  ran sql c params e (inl refused) = elim refused.0 [
    | inl wrong ↦ other old new e (misplaced c.command e wrong)
    | inr done ↦ other old new e ((does old.step_limit (mode_of old) params old.now _ c.returning c.command).no_disk_errors e done.1)
  ]
  ran sql c params e (inr failing) = failed _ e failing

  alone : (in_batch : Bool) (sql : List ℕ) (c : Compiled) (params : Row) (e : Error)
      → RunsAlone in_batch old new sql c params (Err e) → HasReason old new e
  alone in_batch sql c params e h = elim (cases_Bool (shows_rows in_batch c)) [
    | inl shows ↦ let it = rw shows at h in let same : e ≡ ExecuteReturnedResults = let is = it.0 in cc in other old new e (ap is_disk_error same)
    | inr runs ↦ ran sql c params e (rw runs at h)
  ]

  pub executed : (in_batch : Bool) (sql : List ℕ) (params : Row) (e : Error)
      → ExecutesIn in_batch sql params old new (Err e) → HasReason old new e
  unfolding ExecutesIn
  executed in_batch sql params e (inl unrun) = not_run sql params e unrun
  executed in_batch sql params e (inr it) = alone in_batch sql it.0 _ e it.2

  pub executed_inside : (in_batch : Bool) (held : ℕ) (sql : List ℕ) (params : Row) (e : Error)
      → ExecutesInsideIn in_batch held sql params old new (Err e) → HasReason old new e
  executed_inside in_batch held sql params e (inl it) = executed in_batch sql params e it.0
  executed_inside in_batch held sql params e (inr ended) = other old new e (ap is_disk_error ended.1)

  -- nothing has changed, but for an error of the store
  alone_same : (in_batch : Bool) (sql : List ℕ) (c : Compiled) (params : Row) (e : Error)
      → RunsAlone in_batch old new sql c params (Err e) → IsOfStore e ⊎ IsUnchanged old new
  alone_same in_batch sql c params e h = elim (cases_Bool (shows_rows in_batch c)) [
    | inl shows ↦ inr ((rw shows at h).1)
    | inr runs ↦ elim (rw runs at h) [
      | inl refused ↦ inr refused.1
      | inr failing ↦ inl (failure_is e failing.0 failing.1)
    ]
  ]

  pub of_store_or_same : (held : ℕ) (sql : List ℕ) (params : Row) (e : Error)
      → ExecutesInside held sql params old new (Err e) → IsOfStore e ⊎ IsUnchanged old new
  unfolding ExecutesIn IsNotRun
  of_store_or_same held sql params e (inl ((inl (inl unrun)), ended)) = inr unrun.1
  of_store_or_same held sql params e (inl ((inl (inr failing)), ended)) =
      inl (failure_is e failing.0 failing.1)
  of_store_or_same held sql params e (inl ((inr it), ended)) =
      alone_same false sql it.0 _ e it.2
  of_store_or_same held sql params e (inr ended) = inr ended.2

  refused : (limit : Option ℕ) (command : Command) (db : Database) (params : Row) (e : Error)
      → RefusesToRead limit command db params e → is_disk_error e ≡ false
  refused limit (Select q names) db params e h = read_query limit db q params e h
  refused limit (Rows values width names) db params e h = ap is_disk_error h.0
  refused limit (Insert at from) db params e h = ap is_disk_error h
  refused limit (InsertOr at way from clauses) db params e h = ap is_disk_error h
  refused limit (Update at q) db params e h = ap is_disk_error h
  refused limit (Delete at q) db params e h = ap is_disk_error h
  refused limit CreateTable db params e h = ap is_disk_error h
  refused limit (CreateIndex at) db params e h = ap is_disk_error h
  refused limit (DropTable at) db params e h = ap is_disk_error h
  refused limit (DropIndex at) db params e h = ap is_disk_error h
  refused limit Begin db params e h = ap is_disk_error h
  refused limit Commit db params e h = ap is_disk_error h
  refused limit Rollback db params e h = ap is_disk_error h
  refused limit (Savepoint name) db params e h = ap is_disk_error h
  refused limit (Release name) db params e h = ap is_disk_error h
  refused limit (RollbackTo name) db params e h = ap is_disk_error h
  refused limit Nothing db params e h = ap is_disk_error h
  refused limit CreateView db params e h = ap is_disk_error h
  refused limit (DropView at) db params e h = ap is_disk_error h

  shown : (sql : List ℕ) (c : Compiled) (params : Row) (e : Error) (returning : Option Returning)
      → FailsToShow old new sql c params e returning → HasReason old new e
  shown sql c params e None h = other old new e (refused old.step_limit c.command h.0 params e h.2)
  shown sql c params e (Some what) h = ran sql c params e h

  pub queried : (sql : List ℕ) (params : Row) (e : Error) → FailsToQuery sql params old new e
      → HasReason old new e
  unfolding FailsToQuery
  queried sql params e (inl unrun) = not_run sql params e unrun
  queried sql params e (inr it) = shown sql it.0 _ e it.0.returning it.2

  pub queried_inside : (sql : List ℕ) (params : Row) (e : Error)
      → FailsToQuery sql params old new e ⊎ IsTooLate sql params old new e → HasReason old new e
  queried_inside sql params e (inl it) = queried sql params e it
  queried_inside sql params e (inr late) = other old new e (ap is_disk_error late.4)

  -- of a statement in a transaction, or in one that a failure ended
  pub run_inside : {Same : Type 0} (sql : List ℕ) (params : Row) (e : Error) → (old.in_transaction ≡ false →
      (◌≡◌ {A = Result ℕ Error} (Err e) (Err (SqliteFailure TransactionState))) × Same)
      → (IsTrue old.in_transaction → ExecutesInsideIn false 0 sql params old new (Err e)) → HasReason old new e
  run_inside sql params e ended runs = elim (cases_Bool old.in_transaction) [
    | inl inside ↦ executed_inside false 0 sql params e (runs inside)
    | inr outside ↦ let same : e ≡ SqliteFailure TransactionState = let is = (ended outside).0 in cc in other old new e (ap is_disk_error same)
  ]

  pub if_queried_inside : {A : Type 0} (sql : List ℕ) (params : Row) (r : Result A Error)
      → IfErr r (λ e. FailsToQuery sql params old new e ⊎ IsTooLate sql params old new e)
      → IfErr r (HasReason old new)
  if_queried_inside sql params (Ok a) h = tt
  if_queried_inside sql params (Err e) h = queried_inside sql params e h

-- no fault is forgotten
pub more_before : (old mid new : ℕ) → MoreFaults old mid → mid ≤ new → MoreFaults old new
more_before old mid new more counts = omega (arith, more, counts)

-- what came about by the end of a call has come about by the end of a later one
pub reason_still : (old mid new : Seen) (e : Error) → HasReason old mid e → mid.faults ≤ new.faults
    → HasReason old new e
reason_still old mid new e come counts live reports = omega (arith, come live reports, counts)

-- nor is one that is met later
pub more_later : (old mid new : ℕ) → old ≤ mid → MoreFaults mid new → MoreFaults old new
more_later old mid new counts more = omega (arith, counts, more)

pub counts_then : (old mid new : ℕ) → old ≤ mid → mid ≤ new → old ≤ new
counts_then old mid new first second = omega (arith, first, second)

-- an error that came about later, if only a fault closes the connection before
pub reason_on : (old mid new : Seen) (e : Error) → old.faults ≤ mid.faults
    → (IsTrue old.is_open → IsTrue mid.is_open ⊎ MoreFaults old.faults mid.faults)
    → mid.faults ≤ new.faults → HasReason mid new e → HasReason old new e
reason_on old mid new e first closes second come live reports = elim (closes live) [
  | inl still ↦ more_later old.faults mid.faults new.faults first (come still reports)
  | inr more ↦ more_before old.faults mid.faults new.faults more second
]

-- what came about in the second of two calls has come about in the two
pub reason_later : (old mid new : Seen) (e : Error) (Commits : Trees → Type 0)
    → Survives old mid Commits → HasCleanDisk mid → mid.faults ≤ new.faults → HasReason mid new e
    → HasReason old new e
reason_later old mid new e Commits survives clean counts come =
    reason_on old mid new e survives.counts (survives.closes clean) counts come

-- ---- how a call ends that met an error

pub stops_by_cause : (old new : Seen) (e : Error) (cause : Shut) → IsCause e cause
    → HasReason old new e → StopsFor old new (stop.Closed cause)
stops_by_cause old new e (shut.Device x) is come = subst (HasReason old new) (sym is.0) come
stops_by_cause old new e shut.Damaged is come = tt

pub stops_settled : (old mid new : Seen) (e : Error) (it : Stop) (Commits After : Trees → Type 0)
    → Survives old mid Commits → Survives mid new After → HasCleanDisk new → HasReason old mid e
    → Settles e mid new it → StopsFor old new it
stops_settled old mid new e stop.Memory Commits After first second clean come ends = tt
stops_settled old mid new e (stop.Closed (shut.Device x)) Commits After first second clean come ends = elim ends.1 [
  | inl same ↦ subst (HasReason old new) (sym same) (reason_still old mid new e come second.counts)
  | inr again ↦ let early : HasCleanDisk mid = omega (arith, clean, second.clean) in reason_later old mid new x Commits first early second.counts again.1
]
stops_settled old mid new e (stop.Closed shut.Damaged) Commits After first second clean come ends = tt
