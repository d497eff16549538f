use Rattle.streetmap_command.proofs.parser.file_command.Goals as goal

pub returns-clause-app : goal.returns-clause-app
returns-clause-app c =
    let one = c.explained_command-command.ensures.app in
    c.with_argument.ensures.app _ _ one c.positional_arg.ensures.rule c.positional_arg.ensures.local

pub returns-clause-local : goal.returns-clause-local
returns-clause-local c =
    let one = c.explained_command-command.ensures.local in
    c.with_argument.ensures.local one c.positional_arg.ensures.local
