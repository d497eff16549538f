-- What a query shows of a connection, whatever its tables are.
use Rattle.std.specs.Prelude.{◌≡◌, ℕ, List, [], None, Ok}
use Rattle.sqlite.specs.Order.{Row}
use Rattle.sqlite.specs.Schema.{Schema}
use Rattle.sqlite.specs.declared.error.Error.{Error}
use Rattle.sqlite.specs.Listing.{understood}
use Rattle.sqlite.specs.State.{State as Seen, Shown, Begins, FailsToQuery}
use Rattle.sqlite_resolve.specs.declared.compiled.Compiled.{Compiled}
use Rattle.streetmap_rows.specs.Failures.{IsOfStore}

-- a text that, with these tables, has no RETURNING and does not read the time
abbrev pub IsSimpleIn : Schema → List ℕ → Type 0
IsSimpleIn schema sql = (c : Compiled) → understood schema sql ≡ Ok c
    → (c.returning ≡ None) × (c.formats ≡ [])

-- a query shows these rows of a connection, which it leaves as it is
abbrev pub QueryShows : List ℕ → Row → Seen → List Row → Type 0
QueryShows sql params seen rows = Shown sql params seen seen rows

-- what a query shows of a connection begins with these rows
abbrev pub QueryBegins : List ℕ → Row → Seen → List Row → Type 0
QueryBegins sql params seen rows = Begins sql params seen rows

-- a query is refused, and not because the store failed
abbrev pub QueryIsRefused : List ℕ → Row → Seen → Type 0
QueryIsRefused sql params seen =
    (e : Error) × (¬ (IsOfStore e)) × FailsToQuery sql params seen seen e
