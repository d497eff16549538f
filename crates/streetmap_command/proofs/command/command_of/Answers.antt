use Rattle.std.proofs.Common.{◌≡◌, List, Option, Some, IfOk, IfErr, IsSome, Result, sym, subst}
use Rattle.std.specs.Box.{box_value}
use Rattle.clap.specs.Words.{Row, Text, rows_of, found_of}
use Rattle.clap.specs.declared.parser.matches.ArgMatches.TheViews.{out-ArgMatches, out-SubCommand}
use Rattle.streetmap_command.specs.declared.command.Command.{Command}
use Rattle.streetmap_command.specs.declared.command.CommandFault.{CommandFault}
use Rattle.streetmap_command.specs.declared.command.CommandFault.TheVariants.{Memory}
use Rattle.streetmap_command.specs.CommandView.{command_value}
use Rattle.streetmap_command.specs.Program.{command_by}
use Rattle.streetmap_command.proofs.Named.{named}
use Rattle.streetmap_command.proofs.command.command_of.Goals as goal

-- what is read from a subcommand of this name is the command
is_named : (r : Result Command CommandFault) (found : Option (Text × List Row)) (name name' : Text) (rows : List Row) → found ≡ Some (name, rows) → name ≡ name'
    → IfOk r (λ v. Some (command_value v) ≡ command_by (Some (name', rows))) → IfOk r (λ v. Some (command_value v) ≡ command_by found)
is_named r found name name' rows is same h =
    let P : Option (Text × List Row) → Type 0 = λ x. IfOk r (λ v. Some (command_value v) ≡ command_by x) in
    let Q : Text → Type 0 = λ n. P (Some (n, rows)) in
    subst P (sym is) (subst Q (sym same) h)

-- and its fault is the command's
is_refused : (r : Result Command CommandFault) (found : Option (Text × List Row)) (name name' : Text)
    (rows : List Row) → found ≡ Some (name, rows) → name ≡ name'
    → IfErr r (λ e. IsSome (command_by (Some (name', rows))) → e ≡ Memory)
    → IfErr r (λ e. IsSome (command_by found) → e ≡ Memory)
is_refused r found name name' rows is same h =
    let P : Option (Text × List Row) → Type 0 = λ x. IfErr r (λ e. IsSome (command_by x) → e ≡ Memory) in
    let Q : Text → Type 0 = λ n. P (Some (n, rows)) in
    subst P (sym is) (subst Q (sym same) h)

pub returns-in-serve-clause-found : goal.returns-in-serve-clause-found
returns-in-serve-clause-found c =
    let rows = rows_of (found_of c.in-Some.found.now) in
    is_named c.read_serve.result _ c.in-Some.name.now _ rows
    (named (λ b. (out-SubCommand (box_value b)).name.now) (λ b. rows_of (found_of (out-SubCommand (box_value b)).matches)) (out-ArgMatches c.args.matches.now).subcommand c.in-Some.name.now rows c.in-Some.ensures.name c.in-Some.ensures.rows)
    c.in-serve.is c.read_serve.ensures.found

pub returns-in-import-clause-found : goal.returns-in-import-clause-found
returns-in-import-clause-found c =
    let rows = rows_of (found_of c.in-Some.found.now) in
    is_named c.read_import.result _ c.in-Some.name.now _ rows
    (named (λ b. (out-SubCommand (box_value b)).name.now) (λ b. rows_of (found_of (out-SubCommand (box_value b)).matches)) (out-ArgMatches c.args.matches.now).subcommand c.in-Some.name.now rows c.in-Some.ensures.name c.in-Some.ensures.rows)
    c.in-import.is c.read_import.ensures.found

pub returns-in-export-clause-found : goal.returns-in-export-clause-found
returns-in-export-clause-found c =
    let rows = rows_of (found_of c.in-Some.found.now) in
    is_named c.read_export.result _ c.in-Some.name.now _ rows
    (named (λ b. (out-SubCommand (box_value b)).name.now) (λ b. rows_of (found_of (out-SubCommand (box_value b)).matches)) (out-ArgMatches c.args.matches.now).subcommand c.in-Some.name.now rows c.in-Some.ensures.name c.in-Some.ensures.rows)
    c.in-export.is c.read_export.ensures.found

pub returns-in-serve-clause-refused : goal.returns-in-serve-clause-refused
returns-in-serve-clause-refused c =
    let rows = rows_of (found_of c.in-Some.found.now) in
    is_refused c.read_serve.result _ c.in-Some.name.now _ rows
    (named (λ b. (out-SubCommand (box_value b)).name.now) (λ b. rows_of (found_of (out-SubCommand (box_value b)).matches))
    (out-ArgMatches c.args.matches.now).subcommand c.in-Some.name.now rows c.in-Some.ensures.name c.in-Some.ensures.rows)
    c.in-serve.is c.read_serve.ensures.refused

pub returns-in-load-clause-refused : goal.returns-in-load-clause-refused
returns-in-load-clause-refused c =
    let rows = rows_of (found_of c.in-Some.found.now) in
    is_refused c.read_load.result _ c.in-Some.name.now _ rows
    (named (λ b. (out-SubCommand (box_value b)).name.now) (λ b. rows_of (found_of (out-SubCommand (box_value b)).matches))
    (out-ArgMatches c.args.matches.now).subcommand c.in-Some.name.now rows c.in-Some.ensures.name c.in-Some.ensures.rows)
    c.in-load.is c.read_load.ensures.refused
