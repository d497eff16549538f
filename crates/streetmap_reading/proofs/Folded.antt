-- What a fold of a query returns if its rows are known.
use Rattle.std.proofs.Common.{◌≡◌, inl, inr, ℕ, List, [], ◌++◌, None, Ok, Err, Result, MatchResult}
use Rattle.std.proofs.Common.{Bool, true, false, IsTrue, refl, sym, subst}
use Rattle.std.proofs.lemmas.Bool.{cases_Bool}
use Rattle.sqlite.specs.Order.{Row}
use Rattle.sqlite.specs.Command.TheVariants.{Select}
use Rattle.sqlite.specs.State.{State as Seen, IsUnchanged}
use Rattle.sqlite.specs.declared.error.Error.{Error}
use Rattle.sqlite.proofs.Callers.{begins_as}
use Rattle.streetmap_rows.specs.Failures.{IsOfStore, is_of_store}
use Rattle.streetmap_rows.specs.declared.fault.ReadFault.{ReadFault}
use Rattle.streetmap_rows.specs.declared.fault.ReadFault.TheVariants.{Memory, Store, Unread}
use Rattle.streetmap_reading.specs.Candidates.{ShowsSuch, ShowsOf}
use Rattle.streetmap_reading.specs.FoldEffects.{TakesAll, TakesSome, StopsQuery}
use Rattle.streetmap_reading.specs.ShownQueries.{QueryBegins, QueryIsRefused}
use Rattle.streetmap_rows.specs.TableReads.{Stopped}
use Rattle.streetmap_reading.proofs.WholeQueries.{answered}
use Rattle.streetmap_reading.proofs.ShownQueries.{plain_simple, undone_keeps}
use Rattle.streetmap_reading.proofs.QueryFails.{reported}

module _ (sql : List ℕ) (params : Row) (old : Seen) (Are : List Row → Type 0)
    (shows : ShowsSuch sql params old.now Are) where
  -- such rows begin with those with which the answer begins
  begins_so : (given : List Row) → QueryBegins sql params old given
      → (tail : List Row) × Are (given ++ tail)
  begins_so given h = shows.starts given
      (begins_as sql params old old old.now.schema refl (Select shows.program shows.names)
      shows.is shows.plain shows.unlisted given h)

  never_refused : old.step_limit ≡ None → QueryIsRefused sql params old → ⊥
  never_refused limit h = h.1 (reported sql params old old Are shows limit h.0 h.2).0

  of_store : (e : Error) → old.step_limit ≡ None
      → ((IsOfStore e → ⊥) → QueryIsRefused sql params old) → IsOfStore e
  of_store e limit refuses = elim (cases_Bool (is_of_store e)) [
    | inl of ↦ of
    | inr other ↦
        let none : IsOfStore e → ⊥ = λ of. absurd (let clash = subst IsTrue other of in cc) in
        absurd (never_refused limit (refuses none))
  ]

module _ {F : Type 0} (Holds : F → F → List Row → Type 0) (IsGood : F → List Row → Type 0)
    (sql : List ℕ) (params : Row) (old new : Seen) (before after : F) where
  module _ (Are : List Row → Type 0) (shows : ShowsSuch sql params old.now Are)
      (limit : old.step_limit ≡ None) (good : (rows : List Row) → Are rows → IsGood before rows)
    where
      stopped : (fault : ReadFault) → StopsQuery Holds IsGood sql params before old new fault
          → Stopped old new fault
      stopped Memory h = h
      stopped Unread h =
          let begun = begins_so sql params old Are shows h.0.0 h.0.1 in
          h.0.2 begun.0 (good (h.0.0 ++ begun.0) begun.1)
      stopped (Store e) h =
          (of_store sql params old Are shows e limit h.0, h.2, undone_keeps old new h.1)

      -- the rows of a query that no rule refuses are taken, if they are good
      pub folded_such : (r : Result (Unit {0}) ReadFault)
          → TakesAll Holds IsGood sql params before after old new r → Holds before before []
          → MatchResult r (λ _. ((rows : List Row) × Are rows × Holds before after rows)
          × IsUnchanged old new) (Stopped old new)
      folded_such (Ok u) all held =
          let took = all (plain_simple old.now.schema sql shows.plain) held in
          let such = (answered sql params old old Are shows took.0.0 took.0.1).0 in
          ((took.0.0, such, took.0.2), took.1)
      folded_such (Err fault) all held =
          stopped fault (all (plain_simple old.now.schema sql shows.plain) held)

      -- if the first rows are taken, and these are all
      pub folded_some : (r : Result Bool ReadFault)
          → TakesSome Holds IsGood sql params before after old new r → Holds before before []
          → MatchResult r (λ all. (IsTrue all
          → (rows : List Row) × Are rows × Holds before after rows) × IsUnchanged old new)
          (Stopped old new)
      folded_some (Ok true) some held =
          let took = some (plain_simple old.now.schema sql shows.plain) held in
          let such = (answered sql params old old Are shows took.0.0 took.0.1).0 in
          (λ all. (took.0.0, such, took.0.2), took.1)
      folded_some (Ok false) some held =
          let took = some (plain_simple old.now.schema sql shows.plain) held in
          (λ all. absurd (let clash = all in cc), took.1)
      folded_some (Err fault) some held =
          stopped fault (some (plain_simple old.now.schema sql shows.plain) held)

  -- the same of a query that shows these rows
  pub folded : (rows : List Row) → ShowsOf sql params old.now rows → old.step_limit ≡ None
      → IsGood before rows → (r : Result (Unit {0}) ReadFault)
      → TakesAll Holds IsGood sql params before after old new r → Holds before before []
      → MatchResult r (λ _. Holds before after rows × IsUnchanged old new) (Stopped old new)
  folded rows shows limit good r all held =
      only r (folded_such (λ given. given ≡ rows) shows limit
      (λ given is. subst (IsGood before) (sym is) good) r all held)
    where
      only : (r : Result (Unit {0}) ReadFault)
          → MatchResult r (λ _. ((given : List Row) × (given ≡ rows) × Holds before after given)
          × IsUnchanged old new) (Stopped old new)
          → MatchResult r (λ _. Holds before after rows × IsUnchanged old new) (Stopped old new)
      only (Ok u) h = (subst (Holds before after) h.0.1 h.0.2, h.1)
      only (Err fault) h = h
