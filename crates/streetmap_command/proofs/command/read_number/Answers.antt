use Rattle.std.proofs.Common.{sym, ◌∙◌, arith}
use Rattle.streetmap_command.proofs.Numbers.{none_read}
use Rattle.streetmap_command.proofs.command.read_number.Goals as goal

pub returns-in_err-number-clause-value : goal.returns-in_err-number-clause-value
returns-in_err-number-clause-value c =
    c.from_residual.ensures ∙ sym (none_read c.args.most c.args.text.now c.parse.result (omega arith) c.parse.ensures.value.0 (sym c.is_digits.ensures ∙ c.if-not-is_digits.false) (sym c.ok.ensures.value ∙ c.in_err-number.was))
