-- What a query that leaves a connection as it is shows of another with the same database.
use Rattle.std.proofs.Common.{◌≡◌, inl, inr, ℕ, List, [], Ok, Err, None, Result, IsTrue, IsSome}
use Rattle.std.proofs.Common.{refl, sym, subst, ◌∙◌}
use Rattle.sqlite.specs.Order.{Row}
use Rattle.sqlite.specs.Schema.{Schema}
use Rattle.sqlite.specs.Store.{Ghosts}
use Rattle.sqlite.specs.Effect.{Database, RefusesToRead}
use Rattle.sqlite.specs.Clock.{timed as timed_with}
use Rattle.sqlite.specs.Given.{HasGiven, HasBegun, Returns, IsPlain}
use Rattle.sqlite.specs.Held.{Held, state}
use Rattle.sqlite.specs.State.{State as Seen, IsUnchanged, KeepsCommit, IsStatement, ShowsRows}
use Rattle.sqlite.specs.State.{Shown, Begins, IsNotRun, FailsToShow, FailsToQuery}
use Rattle.sqlite.specs.Listing.{understood, reads_listing, IsSourceOf}
use Rattle.sqlite.specs.declared.error.Error.{Error}
use Rattle.sqlite.proofs.Callers.{unchanged_then}
use Rattle.sqlite_resolve.specs.declared.compiled.Compiled.{Compiled}
use Rattle.sqlite_resolve.specs.declared.error.CompileError.{CompileError}
use Rattle.streetmap_rows.specs.Failures.{IsOfStore}
use Rattle.streetmap_rows.proofs.StoreErrors.{failure_is}
use Rattle.streetmap_reading.specs.FoldEffects.{IsSameOrUndone}
use Rattle.streetmap_reading.specs.ShownQueries.{IsSimpleIn, QueryShows, QueryBegins, QueryIsRefused}

-- ---- the same, or undone

pub undone_then : (a b c : Seen) → IsUnchanged a b → IsSameOrUndone b c → IsSameOrUndone a c
undone_then a b c same (inl still) = inl (unchanged_then a b c same still)
undone_then a b c same (inr back) = inr (record {
  was_open = λ live. same.0.was_open;
  undone = λ live.
      let was = back.undone live in
      (was.0 ∙ same.0.committed_is, was.1 ∙ same.0.committed_is);
  autocommit = back.autocommit;
  unmarked = back.unmarked;
  counts = record {
    changes = back.counts.changes ∙ same.1.changes;
    last_rowid = back.counts.last_rowid ∙ same.1.last_rowid;
  };
})

-- nothing was committed
pub undone_keeps : (old new : Seen) → IsSameOrUndone old new → KeepsCommit old new
undone_keeps old new (inl same) =
    record { was_open = λ live. same.0.was_open; committed = λ live. same.0.committed_is }
undone_keeps old new (inr back) =
    record { was_open = back.was_open; committed = λ live. (back.undone live).1 }

-- ---- texts that have no RETURNING and do not read the time

pub plain_simple : (schema : Schema) (sql : List ℕ) → IsPlain (understood schema sql)
    → IsSimpleIn schema sql
plain_simple schema sql plain c is = subst IsPlain is plain

pub simple_there : (sql : List ℕ) (a b : Seen) → a.now ≡ b.now → IsSimpleIn b.now.schema sql
    → IsSimpleIn a.now.schema sql
simple_there sql a b same simple c is =
    simple c (subst (λ (d : Database). understood d.schema sql ≡ Ok c) same is)

module _ (sql : List ℕ) (params : Row) where
  -- ---- of one connection as of another with the same database

  module _ (mid end old : Seen) (simple : IsSimpleIn old.now.schema sql) (same : mid.now ≡ old.now)
    where
      still : IsTrue old.is_open → IsUnchanged old old
      still live = (
        record { was_open = live; is_open = live; now_is = refl; committed_is = refl; mode = refl },
        record { changes = refl; last_rowid = refl },
        refl,
      )

      here : (c : Compiled) → IsStatement mid sql params c → IsStatement old sql params c
      here c h = record {
        is = subst (λ (d : Database). understood d.schema sql ≡ Ok c) same h.is;
        whole = h.whole;
        given = h.given;
        now = h.now;
      }

      source : (db : Database) → IsSourceOf (reads_listing mid.now.schema sql) mid.now db
          → IsSourceOf (reads_listing old.now.schema sql) old.now db
      source db h =
          subst (λ (d : Database). IsSourceOf (reads_listing d.schema sql) d db) same h

      pub shown_there : (rows : List Row) → Shown sql params mid end rows → IsTrue old.is_open
          → QueryShows sql params old rows
      unfolding Shown here
      shown_there rows h live =
          let none = (simple_there sql mid old same simple h.0 h.1.is).0 in
          let full = timed_with params h.0.formats h.1.now in
          let was = subst (ShowsRows mid end sql h.0 full rows) none h.2 in (
            h.0,
            here h.0 h.1,
            subst (ShowsRows old old sql h.0 full rows) (sym none)
                (was.0, source was.0 was.1, was.2, still live),
          )

      pub begins_there : (rows : List Row) → QueryBegins sql params mid rows
          → QueryBegins sql params old rows
      unfolding Begins here
      begins_there rows h = (h.0, here h.0 h.1, h.2, h.3, source h.3 h.4, h.5)

      module _ (limit : mid.step_limit ≡ old.step_limit) (e : Error) where
        pub fails_there : FailsToQuery sql params mid end e
            → (IsTrue mid.is_open → IsTrue old.is_open) → (IsOfStore e → ⊥)
            → QueryIsRefused sql params old
        unfolding FailsToQuery IsNotRun here
        fails_there (inl (inl none)) live other =
            (e, other, inl (inl (rw same at none.0, still (live none.1.0.was_open))))
        fails_there (inl (inr failed)) live other =
            absurd (other (failure_is e failed.0 failed.1))
        fails_there (inr h) live other =
            let none = (simple_there sql mid old same simple h.0 h.1.is).0 in
            let full = timed_with params h.0.formats h.1.now in
            let was = subst (FailsToShow mid end sql h.0 full e) none h.2 in
            let refuses = subst (λ l. RefusesToRead l h.0.command was.0 full e) limit was.2 in (
              e,
              other,
              inr (
                h.0,
                here h.0 h.1,
                subst (FailsToShow old old sql h.0 full e) (sym none)
                    (was.0, source was.0 was.1, refuses, still (live was.3.0.was_open)),
              ),
            )

  module _ (old new : Seen) (simple : IsSimpleIn old.now.schema sql) where
    pub failed_undone : (e : Error) → FailsToQuery sql params old new e → IsSameOrUndone old new
    unfolding FailsToQuery IsNotRun
    failed_undone e (inl (inl none)) = inl none.1
    failed_undone e (inl (inr failed)) = inr failed.3
    failed_undone e (inr h) =
        let none = (simple h.0 h.1.is).0 in
        let full = timed_with params h.0.formats h.1.now in
        let was = subst (FailsToShow old new sql h.0 full e) none h.2 in
        inl was.3

    -- what a query showed of an open connection that it left
    pub seen : (rows : List Row) → IsTrue old.is_open → Shown sql params old new rows
        → QueryShows sql params old rows
    seen rows live h = shown_there old new old simple refl rows h live

    pub unseen : (e : Error) → FailsToQuery sql params old new e → (IsOfStore e → ⊥)
        → QueryIsRefused sql params old
    unseen e h other = fails_there old new old simple refl refl e h (λ live. live) other

  never_returns : (r : Result Compiled CompileError)
      → ((c : Compiled) → r ≡ Ok c → c.returning ≡ None) → Returns r → ⊥
  never_returns (Ok c) none some = absurd (let it = subst IsSome (none c refl) some in cc)
  never_returns (Err e) none some = absurd some

  pub begun : {S : Type 0} (g : Ghosts S) (old new : Held S) → IsSimpleIn old.schema sql
      → HasBegun g sql params old new
      → HasGiven g sql params new [] × IsUnchanged (state g old) (state g new)
  begun g old new simple (inl h) = h
  begun g old new simple (inr h) =
      absurd (never_returns (understood old.schema sql) (λ c is. (simple c is).0) h.0)
