use Rattle.std.proofs.Common.{sym, ◌∙◌}
use Rattle.streetmap_routes.proofs.NumberTexts.{number_read, number_above, serial_is, no_serial}
use Rattle.streetmap_routes.proofs.changes.read_serial.Goals as goal

pub returns-in-Ok : goal.returns-in-Ok
returns-in-Ok c =
    let text = c.args.text.now in
    let number = sym c.is_number.ensures ∙ c.if-not-is_number.false in
    let read = number_read text number c.in-Ok.serial c.in-Ok.ensures.value.0 in
    serial_is text number c.in-Ok.serial read.0 read.1

pub returns-in-Err : goal.returns-in-Err
returns-in-Err c =
    let text = c.args.text.now in
    let number = sym c.is_number.ensures ∙ c.if-not-is_number.false in
    no_serial text number (number_above text number c.in-Err.field-0 c.in-Err.ensures.value.0)
