use Rattle.streetmap_command.proofs.parser.make_parser.Goals as goal

pub returns : goal.returns
returns c =
    let one = c.with_subcommand-command.ensures _ _ c.make_program.ensures.app c.make_lines.ensures.app c.make_lines.ensures.local in
    let two = c.with_subcommand-command-2.ensures _ _ one c.make_create.ensures.app c.make_create.ensures.local in
    let three = c.with_subcommand-command-3.ensures _ _ two c.make_pipe.ensures.app c.make_pipe.ensures.local in
    let four = c.with_subcommand-command-4.ensures _ _ three c.make_serve.ensures.app c.make_serve.ensures.local in
    let five = c.with_subcommand-command-5.ensures _ _ four c.make_import.ensures.app c.make_import.ensures.local in
    let six = c.with_subcommand-command-6.ensures _ _ five c.make_export.ensures.app c.make_export.ensures.local in
    let seven = c.with_subcommand-command-7.ensures _ _ six c.make_check.ensures.app c.make_check.ensures.local in
    let eight = c.with_subcommand-command-8.ensures _ _ seven c.make_load.ensures.app c.make_load.ensures.local in
    let nine = c.with_subcommand-command-9.ensures _ _ eight c.make_batches.ensures.app c.make_batches.ensures.local in
    c.with_subcommand.ensures _ _ nine c.make_apply.ensures.app c.make_apply.ensures.local
