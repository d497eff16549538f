-- The rows that a page reads.
use Rattle.std.specs.Prelude.{◌≡◌, ◌≤◌, ℕ, List, [], ◌∷◌, ◌++◌, length, None, Ok, Err}
use Rattle.std.specs.Prelude.{Result, false, ℤ, option_map}
use Rattle.sqlite.specs.declared.types.Value.TheVariants.{Int, Text as Words}
use Rattle.sqlite.specs.declared.error.Error.{Error}
use Rattle.sqlite.specs.Order.{Row}
use Rattle.sqlite.specs.Values.{or_null}
use Rattle.sqlite.specs.Command.TheVariants.{Select}
use Rattle.sqlite.specs.Effect.{Database, ReadsFirst, Reads, RefusesQuery}
use Rattle.sqlite.specs.Given.{IsPlain}
use Rattle.sqlite.specs.Listing.{understood, reads_listing}
use Rattle.sqlite.proofs.Callers.{command_of}
use Rattle.sqlite_schema.specs.declared.program.Program.{Program}
use Rattle.sqlite_resolve.specs.declared.compiled.Compiled.{Compiled}
use Rattle.sqlite_resolve.specs.declared.error.CompileError.{CompileError}
use Rattle.streetmap_geojson.specs.FeatureValue.{FeatureValue}
use Rattle.streetmap_rows.specs.Rows.{feature_text, seconds_in}

-- a candidate is shown by its text
abbrev pub candidate_row : FeatureValue → Row
candidate_row f = Words (feature_text f) ∷ []

-- one feature is shown by its text, and the first second of its time or NULL
abbrev pub dated_row : FeatureValue → Row
dated_row f = Words (feature_text f)
    ∷ or_null Int (option_map (λ (s : ℤ × ℤ). s.0) (seconds_in f)) ∷ []

-- the text is one statement, and has this number of parameters
abbrev pub IsOneStatement : List ℕ → Row → Result Compiled CompileError → Type 0
IsOneStatement sql params (Ok c) = (length sql ≤ c.tail) × (length params ≡ length c.names)
IsOneStatement sql params (Err e) = ⊥

-- the text is a query of this database that shows rows that satisfy `Are`, and that no rule refuses
pub record ShowsSuch (sql : List ℕ) (params : Row) (db : Database) (Are : List Row → Type 0)
    : Type 0 where
  pub plain : IsPlain (understood db.schema sql)
  pub unlisted : reads_listing db.schema sql ≡ false
  pub program : Program
  pub names : List (List ℕ)
  pub is : command_of (understood db.schema sql) ≡ Select program names
  pub whole : IsOneStatement sql params (understood db.schema sql)
  pub starts : (given : List Row) → ReadsFirst (Select program names) db params given
      → (tail : List Row) × Are (given ++ tail)
  pub answers : (given : List Row) → Reads (Select program names) db params given → Are given
  pub never : (e : Error) → RefusesQuery None db program params e → ⊥

-- it shows these rows
abbrev pub ShowsOf : List ℕ → Row → Database → List Row → Type 0
ShowsOf sql params db rows = ShowsSuch sql params db (λ given. given ≡ rows)
