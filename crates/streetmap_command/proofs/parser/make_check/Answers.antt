use Rattle.streetmap_command.proofs.parser.make_check.Goals as goal

pub returns-clause-app : goal.returns-clause-app
returns-clause-app c =
    let one = c.file_command-command.ensures.app in
    c.with_argument.ensures.app _ _ one c.flag_arg.ensures.rule c.flag_arg.ensures.local

pub returns-clause-local : goal.returns-clause-local
returns-clause-local c =
    let one = c.file_command-command.ensures.local in
    c.with_argument.ensures.local one c.flag_arg.ensures.local
