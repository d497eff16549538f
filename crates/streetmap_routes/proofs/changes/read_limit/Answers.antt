use Rattle.std.proofs.Common.{sym, ◌∙◌}
use Rattle.streetmap_routes.proofs.NumberTexts.{number_above, limit_above}
use Rattle.streetmap_routes.proofs.changes.read_limit.Goals as goal

pub returns-in-Err : goal.returns-in-Err
returns-in-Err c =
    let text = c.args.text.now in
    let number = sym c.is_number.ensures ∙ c.if-not-is_number.false in
    limit_above text number (number_above text number c.in-Err.field-0 c.in-Err.ensures.value.0)
