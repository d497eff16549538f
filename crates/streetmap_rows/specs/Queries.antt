-- Queries of one table.
use Rattle.std.specs.Prelude.{ℕ, List, [], pos, negsuc, None, false}
use Rattle.sqlite.specs.declared.types.Value.TheVariants.{Int}
use Rattle.sqlite.specs.Term.{Term, lit}
use Rattle.sqlite.specs.Query.{Query, inner, end}
use Rattle.sqlite_value.specs.declared.keys.Key.{Key}
use Rattle.sqlite_schema.specs.declared.program.Program.{Program}

-- the rows of this table that pass the conditions, in this order, and what is shown of them
abbrev pub over_in : ℕ → List Term → List Term → List (Term × Key) → Query
over_in tree filter project order = record {
  from = inner tree end;
  filter = filter;
  group = None;
  project = project;
  distinct = false;
  collations = [];
  order = order;
  limit = lit (Int (negsuc 0));
  offset = lit (Int (pos 0));
}

-- in any order
abbrev pub over : ℕ → List Term → List Term → Query
over tree filter project = over_in tree filter project []

-- a program of one query
abbrev pub program : Query → Program
program q = record { lets = []; body = q }
