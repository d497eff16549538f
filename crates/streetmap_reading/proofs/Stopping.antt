-- Why rows of a query were not all taken, after others were.
use Rattle.std.proofs.Common.{◌≡◌, ◌≤◌, inl, ℕ, List, [], ◌∷◌, ◌++◌, Option, None, Some, Ok, Err}
use Rattle.std.proofs.Common.{Bool, true, false, Result, MatchResult, subst}
use Rattle.sqlite.specs.declared.error.Error.{Error}
use Rattle.sqlite.specs.Order.{Row}
use Rattle.sqlite.specs.Store.{Ghosts}
use Rattle.sqlite.specs.Given.{HasGiven, Advances, FailsToAdvance}
use Rattle.sqlite.specs.Held.{Held, state}
use Rattle.sqlite.specs.State.{State as Seen, IsUnchanged, FailsToQuery}
use Rattle.sqlite.proofs.Callers.{given_begin, unchanged_then}
use Rattle.streetmap_rows.specs.Failures.{IsOfStore, HasReason}
use Rattle.streetmap_rows.proofs.ErrorReasons.{queried, reason_on}
use Rattle.streetmap_rows.specs.declared.fault.ReadFault.{ReadFault}
use Rattle.streetmap_rows.specs.declared.fault.ReadFault.TheVariants.{Memory, Store, Unread}
use Rattle.streetmap_reading.specs.ShownQueries.{IsSimpleIn, QueryShows, QueryIsRefused}
use Rattle.streetmap_reading.specs.FoldEffects.{Refuses, IsSameOrUndone, AreWrong, StopsQuery}
use Rattle.streetmap_reading.specs.FoldEffects.{ShowsOrBegins}
use Rattle.streetmap_reading.proofs.ShownQueries.{undone_then, shown_there, begins_there, fails_there}
use Rattle.streetmap_reading.proofs.ShownQueries.{failed_undone, seen, unseen}

module _ (sql : List ℕ) (params : Row) where
  module _ (a b : Seen) (simple : IsSimpleIn a.now.schema sql) (same : IsUnchanged a b) where
    pub sees_on : (rows : List Row) → QueryShows sql params b rows → QueryShows sql params a rows
    sees_on rows h =
        shown_there sql params b b a simple same.0.now_is rows h same.0.was_open

    pub unseen_on : b.step_limit ≡ a.step_limit → QueryIsRefused sql params b
        → QueryIsRefused sql params a
    unseen_on limit h =
        fails_there sql params b b a simple same.0.now_is limit h.0 h.2 (λ live. same.0.was_open)
        h.1

  pub refused : (old new : Seen) (e : Error) → IsSimpleIn old.now.schema sql
      → FailsToQuery sql params old new e
      → ((IsOfStore e → ⊥) → QueryIsRefused sql params old) × IsSameOrUndone old new
      × HasReason old new e
  refused old new e simple h = (
    λ other. unseen sql params old new simple e h other,
    failed_undone sql params old new simple e h,
    queried old new sql params e h,
  )

  module _ {S : Type 0} (g : Ghosts S) (old new : Held S) (simple : IsSimpleIn old.schema sql)
      (done : List Row) (given : HasGiven g sql params old done) where
    pub at_end : (row : Option Row) → row ≡ None → IsUnchanged (state g old) (state g new)
        → Advances g old new row → QueryShows sql params (state g old) done
    at_end row none same moved =
        let ended = (subst (Advances g old new) none moved) sql params done given in
        seen sql params (state g old) (state g new) simple done same.0.was_open ended

    pub at_row : (row : Option Row) (r : Row) → row ≡ Some r → Advances g old new row
        → HasGiven g sql params new (done ++ r ∷ [])
    at_row row r is moved = (subst (Advances g old new) is moved) sql params done given

    pub at_fault : (e : Error) → FailsToAdvance g old new e
        → ((IsOfStore e → ⊥) → QueryIsRefused sql params (state g old))
        × IsSameOrUndone (state g old) (state g new) × HasReason (state g old) (state g new) e
    at_fault e fails = refused (state g old) (state g new) e simple (fails sql params done given)

module _ {F : Type 0} (Holds : F → F → List Row → Type 0) (IsGood : F → List Row → Type 0)
    (sql : List ℕ) (params : Row) where
  pub stops_at : {S : Type 0} (g : Ghosts S) (old new : Held S) (start : F) (rows : List Row)
      → IsSimpleIn old.schema sql → IsUnchanged (state g old) (state g new)
      → HasGiven g sql params new rows
      → (fault : ReadFault) → Refuses (AreWrong Holds IsGood start rows) fault
      → StopsQuery Holds IsGood sql params start (state g old) (state g new) fault
  stops_at g old new start rows simple same given Memory h = same
  stops_at g old new start rows simple same given Unread h =
      let mid = state g new in
      let first = given_begin g sql params new rows given in
      let begins = begins_there sql params mid mid (state g old) simple same.0.now_is rows first in
      ((rows, begins, h), same)
  stops_at g old new start rows simple same given (Store e) h = absurd h

  pub stops_on : (start : F) (a b c : Seen) (fault : ReadFault) → IsSimpleIn a.now.schema sql
      → IsUnchanged a b → b.step_limit ≡ a.step_limit → a.faults ≤ b.faults → b.faults ≤ c.faults
      → StopsQuery Holds IsGood sql params start b c fault
      → StopsQuery Holds IsGood sql params start a c fault
  stops_on start a b c Memory simple same limit first second h = unchanged_then a b c same h
  stops_on start a b c Unread simple same limit first second h =
      let begins = begins_there sql params b b a simple same.0.now_is h.0.0 h.0.1 in
      ((h.0.0, begins, h.0.2), unchanged_then a b c same h.1)
  stops_on start a b c (Store e) simple same limit first second h = (
    λ of. unseen_on sql params a b simple same limit (h.0 of),
    undone_then a b c same h.1,
    reason_on a b c e first (λ live. inl same.0.is_open) second h.2,
  )

  -- what was taken of the rows that it shows
  abbrev TookSome : Seen → Seen → F → F → Bool → Type 0
  TookSome seen new start after all = ((rows : List Row)
      × ShowsOrBegins all sql params seen rows × Holds start after rows) × IsUnchanged seen new

  pub some_on : (start after : F) (a b c : Seen) (r : Result Bool ReadFault)
      → IsSimpleIn a.now.schema sql → IsUnchanged a b → b.step_limit ≡ a.step_limit
      → a.faults ≤ b.faults → b.faults ≤ c.faults
      → MatchResult r (TookSome b c start after) (StopsQuery Holds IsGood sql params start b c)
      → MatchResult r (TookSome a c start after) (StopsQuery Holds IsGood sql params start a c)
  some_on start after a b c (Ok true) simple same limit first second h =
      let shown = sees_on sql params a b simple same h.0.0 h.0.1 in
      ((h.0.0, shown, h.0.2), unchanged_then a b c same h.1)
  some_on start after a b c (Ok false) simple same limit first second h =
      let begins = begins_there sql params b b a simple same.0.now_is h.0.0 h.0.1 in
      ((h.0.0, begins, h.0.2), unchanged_then a b c same h.1)
  some_on start after a b c (Err fault) simple same limit first second h =
      stops_on start a b c fault simple same limit first second h

  pub some_at : (start after : F) (a b c : Seen) (r : Result Bool ReadFault) → b ≡ c
      → MatchResult r (TookSome a b start after) (StopsQuery Holds IsGood sql params start a b)
      → MatchResult r (TookSome a c start after) (StopsQuery Holds IsGood sql params start a c)
  some_at start after a b c r same h =
      subst (λ s. MatchResult r (TookSome a s start after)
      (StopsQuery Holds IsGood sql params start a s)) same h
