-- The effect of taking the rows of a query one after the other, whatever they are.
use Rattle.std.specs.Prelude.{◌≡◌, ◌⊎◌, ℕ, List, [], ◌∷◌, ◌++◌, Bool, true}
use Rattle.std.specs.Prelude.{false, Result, MatchResult}
use Rattle.sqlite.specs.Order.{Row}
use Rattle.sqlite.specs.Store.{Ghosts}
use Rattle.sqlite.specs.Given.{HasGiven}
use Rattle.sqlite.specs.Held.{Held, state}
use Rattle.sqlite.specs.State.{State as Seen, IsUnchanged, IsRolledBack}
use Rattle.streetmap_rows.specs.Failures.{IsOfStore, HasReason}
use Rattle.streetmap_rows.specs.declared.fault.ReadFault.{ReadFault}
use Rattle.streetmap_rows.specs.declared.fault.ReadFault.TheVariants.{Memory, Store, Unread}
use Rattle.streetmap_reading.specs.ShownQueries.{IsSimpleIn, QueryShows, QueryBegins}
use Rattle.streetmap_reading.specs.ShownQueries.{QueryIsRefused}

-- it gave up because memory ran out
abbrev pub IsForMemory : ReadFault → Type 0
IsForMemory fault = fault ≡ Memory

-- a row that was given is refused because memory ran out, or for this reason, and never because the
-- store failed
abbrev pub Refuses : Type 0 → ReadFault → Type 0
Refuses why Memory = Unit {0}
Refuses why Unread = why
Refuses why (Store e) = ⊥

-- nothing changed, or the transaction was rolled back
abbrev pub IsSameOrUndone : Seen → Seen → Type 0
IsSameOrUndone old new = IsUnchanged old new ⊎ IsRolledBack old new

-- the query shows these rows, or begins with them
abbrev pub ShowsOrBegins : Bool → List ℕ → Row → Seen → List Row → Type 0
ShowsOrBegins true = QueryShows
ShowsOrBegins false = QueryBegins

module _ {F : Type 0} (Holds : F → F → List Row → Type 0)
    (IsGood : F → List Row → Type 0) where
  -- no good rows begin with these
  abbrev pub AreWrong : F → List Row → Type 0
  AreWrong start rows = (later : List Row) → IsGood start (rows ++ later) → ⊥

  -- a row is taken after the earlier ones, or no good rows begin with them and it
  abbrev pub TakesRow : Row → F → F → Result (Unit {0}) ReadFault → Type 0
  TakesRow row before after result =
      (start : F) (rows : List Row) → Holds start before rows
      → MatchResult result (λ _. Holds start after (rows ++ row ∷ []))
      (Refuses (AreWrong start (rows ++ row ∷ [])))

  -- why rows of a query were not all taken
  abbrev pub StopsQuery : List ℕ → Row → F → Seen → Seen → ReadFault → Type 0
  StopsQuery sql params start old new Memory = IsUnchanged old new
  StopsQuery sql params start old new Unread = ((rows : List Row) × QueryBegins sql params old rows
      × AreWrong start rows) × IsUnchanged old new
  StopsQuery sql params start old new (Store e) =
      ((¬ (IsOfStore e)) → QueryIsRefused sql params old) × IsSameOrUndone old new
      × HasReason old new e

  -- all rows that the query shows were taken
  abbrev pub TakesAll : List ℕ → Row → F → F → Seen → Seen
      → Result (Unit {0}) ReadFault → Type 0
  TakesAll sql params before after old new result =
      IsSimpleIn old.now.schema sql → Holds before before []
      → MatchResult result (λ _. ((rows : List Row) × QueryShows sql params old rows
      × Holds before after rows) × IsUnchanged old new) (StopsQuery sql params before old new)

  -- rows that the query shows were taken, the first ones or all, as the result says
  abbrev pub TakesSome : List ℕ → Row → F → F → Seen → Seen → Result Bool ReadFault → Type 0
  TakesSome sql params before after old new result =
      IsSimpleIn old.now.schema sql → Holds before before []
      → MatchResult result (λ all. ((rows : List Row) × ShowsOrBegins all sql params old rows
      × Holds before after rows) × IsUnchanged old new) (StopsQuery sql params before old new)

  module _ {S : Type 0} (g : Ghosts S) where
    -- one more row was taken, or none was left
    abbrev pub TookNext : List ℕ → Row → F → List Row → Held S → Held S → F → Bool
        → Type 0
    TookNext sql params start done old new fold true = (row : Row)
        × HasGiven g sql params new (done ++ row ∷ []) × Holds start fold (done ++ row ∷ [])
    TookNext sql params start done old new fold false = QueryShows sql params (state g old) done
        × Holds start fold done

    -- after some of the rows were taken
    abbrev pub TakesNext : Held S → Held S → F → F → Result Bool ReadFault → Type 0
    TakesNext old new before after result =
        (sql : List ℕ) (params : Row) (start : F) (done : List Row) → IsSimpleIn old.schema sql
        → HasGiven g sql params old done → Holds start before done
        → MatchResult result (λ more. TookNext sql params start done old new after more
        × IsUnchanged (state g old) (state g new))
        (StopsQuery sql params start (state g old) (state g new))

    -- before any of them was taken
    abbrev pub TakesFirst : Held S → Held S → F → F → Result Bool ReadFault → Type 0
    TakesFirst old new before after result =
        (sql : List ℕ) (params : Row) (start : F) → IsSimpleIn old.schema sql
        → HasGiven g sql params old [] → Holds start before []
        → MatchResult result (λ all. ((rows : List Row)
        × ShowsOrBegins all sql params (state g old) rows × Holds start after rows)
        × IsUnchanged (state g old) (state g new))
        (StopsQuery sql params start (state g old) (state g new))
