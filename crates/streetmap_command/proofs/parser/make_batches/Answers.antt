use Rattle.streetmap_command.proofs.parser.make_batches.Goals as goal

pub returns-clause-app : goal.returns-clause-app
returns-clause-app c =
    let one = c.file_command-command.ensures.app in
    c.with_argument.ensures.app _ _ one c.option_arg.ensures.rule c.option_arg.ensures.local

pub returns-clause-local : goal.returns-clause-local
returns-clause-local c =
    let one = c.file_command-command.ensures.local in
    c.with_argument.ensures.local one c.option_arg.ensures.local
