use Rattle.streetmap_command.proofs.parser.make_serve.Goals as goal

pub returns-clause-app : goal.returns-clause-app
returns-clause-app c =
    let one = c.make_serve_clients-command.ensures.app in
    let two =
    c.with_argument-command.ensures.app _ _ one c.option_arg.ensures.rule
    c.option_arg.ensures.local in
    let three =
    c.with_argument-command-2.ensures.app _ _ two c.option_arg-2.ensures.rule
    c.option_arg-2.ensures.local in
    let four =
    c.with_argument-command-3.ensures.app _ _ three c.flag_arg.ensures.rule
    c.flag_arg.ensures.local in
    let five =
    c.with_argument-command-4.ensures.app _ _ four c.flag_arg-2.ensures.rule
    c.flag_arg-2.ensures.local in
    c.with_argument.ensures.app _ _ five c.option_arg-3.ensures.rule c.option_arg-3.ensures.local

pub returns-clause-local : goal.returns-clause-local
returns-clause-local c =
    let one = c.make_serve_clients-command.ensures.local in
    let two = c.with_argument-command.ensures.local one c.option_arg.ensures.local in
    let three = c.with_argument-command-2.ensures.local two c.option_arg-2.ensures.local in
    let four = c.with_argument-command-3.ensures.local three c.flag_arg.ensures.local in
    let five = c.with_argument-command-4.ensures.local four c.flag_arg-2.ensures.local in
    c.with_argument.ensures.local five c.option_arg-3.ensures.local
