-- What is parsed and drafted of statements over one table.
use Rattle.std.proofs.Common.{◌≡◌, ℕ, List, [], ◌∷◌, Ok, Err, None, true, false, is_ok, negsuc, refl}
use Rattle.sqlite.specs.declared.types.Value.TheVariants.{Int}
use Rattle.sqlite.specs.Term.{Term, lit, op2}
use Rattle.sqlite_sql.specs.declared.ops.BinaryOp.TheVariants.{Compare}
use Rattle.sqlite_sql.specs.declared.ops.CompareOp.TheVariants.{Eq, Le, Ge}
use Rattle.sqlite_value.specs.declared.keys.Collation.TheVariants.{Binary}
use Rattle.sqlite_value.specs.declared.keys.Key.{Key}
use Rattle.sqlite_ast.specs.declared.Expr.{Expr}
use Rattle.sqlite_ast.specs.declared.Expr.TheVariants as expr
use Rattle.sqlite_ast.specs.declared.Source.{Source as From, roll-Source}
use Rattle.sqlite_ast.specs.declared.Shown.{Shown as Shows}
use Rattle.sqlite_ast.specs.declared.Shown.TheVariants.{One}
use Rattle.sqlite_ast.specs.declared.Origin.TheVariants.{Table as Stored}
use Rattle.sqlite_syntax.specs.declared.statement.Parsed.{Parsed}
use Rattle.sqlite_draft.specs.declared.query.Draft.{Draft}
use Rattle.sqlite_draft.specs.declared.join.Step.TheVariants.{Inner}
use Rattle.sqlite_draft.specs.Join.{chain}
use Rattle.sqlite_resolve.specs.Lowering.{Checked}
use Rattle.sqlite_resolve.specs.Terms.{number}

-- what was parsed of a text that is read
abbrev pub parsed_of : (r : Checked Parsed) → is_ok r ≡ true → Parsed
parsed_of (Ok p) h = p
parsed_of (Err e) h = absurd (cc)

pub was_parsed : (r : Checked Parsed) (h : is_ok r ≡ true) → r ≡ Ok (parsed_of r h)
was_parsed (Ok p) h = refl
was_parsed (Err e) h = absurd (cc)

abbrev pub named_column : List ℕ → Expr
named_column name = expr.Column None name

abbrev pub from_table : List ℕ → From
from_table name = roll-Source (record { is_left = false; origin = Stored name; alias = None; on = None; using = [] })

abbrev pub shown_column : List ℕ → Shows
shown_column name = One (named_column name) None name

abbrev pub equal_terms : Term → Term → Term
equal_terms = op2 (Compare Eq Binary)

abbrev pub at_most : Term → Term → Term
at_most = op2 (Compare Le Binary)

abbrev pub at_least : Term → Term → Term
at_least = op2 (Compare Ge Binary)

-- in order of a column
abbrev pub rising : Key
rising = record { collation = Binary; descending = false }

-- a query of one table
abbrev pub draft : ℕ → List Term → List Term → List (Term × Key) → Draft
draft tree filter project order = record {
  from = chain (Inner tree ∷ []);
  filter = filter;
  group = None;
  project = project;
  distinct = false;
  collations =
      [];
  order = order;
  limit = lit (Int (negsuc 0));
  offset = number 0;
}
