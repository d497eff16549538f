-- What the queries for the format row and for the batches show, of any tables.
use Rattle.std.specs.Prelude.{◌≡◌, ◌≢◌, ◌⊎◌, ℕ, ℤ, pos, ◌<ℤ◌, List, [], length, Option, Some, None}
use Rattle.std.specs.Prelude.{Result, Ok, Err, Vec, slice_get, option_and_then}
use Rattle.std.specs.declared.alloc.Global.{Global}
use Rattle.sqlite.specs.Order.{Row, column}
use Rattle.sqlite.specs.declared.error.Error.{Error}
use Rattle.sqlite.specs.declared.types.Value.{Value}
use Rattle.sqlite.specs.declared.types.Value.TheVariants.{Int}
use Rattle.sqlite.specs.State.{State as Seen, IsUnchanged, Shown, FailsToQuery}
use Rattle.streetmap_rows.specs.Failures.{IsOfStore}
use Rattle.streetmap_rows.specs.Statements.{select_format}
use Rattle.streetmap_tables.specs.Adoption.{serials_text, FindsFormat, FindsSerials, FindsKeys}
use Rattle.streetmap_tables.specs.declared.adoption.Found.{Found}
use Rattle.streetmap_tables.specs.declared.adoption.Found.TheVariants.{Keys, Unread, Other}
use Rattle.streetmap_tables.specs.declared.openings.OpenFault.{OpenFault}
use Rattle.streetmap_tables.specs.declared.openings.OpenFault.TheVariants.{NotOurs, NewFormat}
use Rattle.streetmap_tables.specs.declared.openings.OpenFault.TheVariants.{Damaged, Device}
use Rattle.streetmap_tables.specs.declared.openings.OpenFault.TheVariants.{Memory}

-- the number in a cell, if it is one
abbrev pub number : Value → Option ℤ
number (Int n) = Some n
number _ = None

-- the format in these rows: the first value of the first row, if that is a number
abbrev pub format_in : List Row → Option ℤ
format_in rows = option_and_then (λ row. number (column row 0)) (slice_get rows 0)

-- a query shows these rows of a connection, which it leaves as it is
abbrev pub Sees : List ℕ → Seen → List Row → Type 0
Sees sql seen rows = Shown sql [] seen seen rows

-- a query is refused, and not because the store failed
abbrev pub IsUnseen : List ℕ → Seen → Type 0
IsUnseen sql seen = (e : Error) × (¬ (IsOfStore e)) × FailsToQuery sql [] seen seen e

-- what a query showed, of any tables
abbrev pub ShowsRows : List ℕ → Seen → Seen → Result (Vec Row Global) Error → Type 0
ShowsRows sql old new (Ok rows) = Sees sql old rows.items × IsUnchanged old new
ShowsRows sql old new (Err e) = (¬ (IsOfStore e)) → IsUnseen sql old

-- the query for the format row shows this format
abbrev pub ShowsFormat : Seen → Option ℤ → Type 0
ShowsFormat seen format = (rows : List Row) × Sees select_format seen rows
    × (format_in rows ≡ format)

-- the tables are of format 2, and this number of batches is shown
abbrev pub ShowsKeys : Seen → ℕ → Type 0
ShowsKeys seen count = ShowsFormat seen (Some (pos 2))
    × ((rows : List Row) × Sees serials_text seen rows × (count ≡ length rows))

-- the query for the format row is refused
abbrev pub ShowsNothing : Seen → Type 0
ShowsNothing seen = IsUnseen select_format seen

-- the tables are of format 2, and the query for the batches is refused
abbrev pub LosesKeys : Seen → Type 0
LosesKeys seen = ShowsFormat seen (Some (pos 2)) × IsUnseen serials_text seen

-- what was found is what the queries show
abbrev pub IsFoundIn : Seen → Result Found Error → Type 0
IsFoundIn seen (Ok (Keys count)) = ShowsKeys seen count
IsFoundIn seen (Ok Unread) = LosesKeys seen
IsFoundIn seen (Ok (Other format)) = ShowsFormat seen format × (format ≢ Some (pos 2))
IsFoundIn seen (Err e) = (¬ (IsOfStore e)) → ShowsNothing seen

-- why tables of a format are refused: one above 2 is new, and none or one below 1 is not ours
abbrev pub IsRefusedFor : Option ℤ → OpenFault → Type 0
IsRefusedFor format NewFormat = (n : ℤ) × (format ≡ Some n) × (pos 2 <ℤ n)
IsRefusedFor format NotOurs = (n : ℤ) → format ≡ Some n → n <ℤ pos 1
IsRefusedFor format Damaged = ⊥
IsRefusedFor format (Device e) = ⊥
IsRefusedFor format Memory = ⊥

-- tables are refused for a format that the query shows
abbrev pub ShowsFault : Seen → OpenFault → Type 0
ShowsFault seen fault = (format : Option ℤ) × IsRefusedFor format fault × ShowsFormat seen format

-- The result is what the queries show, whatever the tables are; but the store may fail, or memory
-- may run out.
abbrev pub AdoptsBy : Seen → Result (Option ℕ) OpenFault → Type 0
AdoptsBy seen (Ok (Some count)) = ShowsKeys seen count
AdoptsBy seen (Ok None) = ShowsFormat seen (Some (pos 1))
AdoptsBy seen (Err NotOurs) = ShowsFault seen NotOurs ⊎ ShowsNothing seen
AdoptsBy seen (Err NewFormat) = ShowsFault seen NewFormat
AdoptsBy seen (Err Damaged) = LosesKeys seen
AdoptsBy seen (Err (Device e)) = IsOfStore e
AdoptsBy seen (Err Memory) = Unit {0}

-- ---- the reads, of a state's tables and of any

pub record ReadsFormat (old new : Seen) (result : Result (Vec Row Global) Error) : Type 0 where
  pub finds : FindsFormat old new result
  pub reports : ShowsRows select_format old new result

pub record ReadsSerials (old new : Seen) (result : Result (Vec Row Global) Error) : Type 0 where
  pub finds : FindsSerials old result
  pub reports : ShowsRows serials_text old new result

pub record FindsBatches (old new : Seen) (result : Result Found Error) : Type 0 where
  pub finds : FindsKeys old result
  pub reports : IsFoundIn old result
