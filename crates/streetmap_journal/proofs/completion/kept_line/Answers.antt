use Rattle.std.proofs.Common.{◌≡◌, Some, sym, ap, ◌∙◌}
use Rattle.std.specs.Option.{option_map}
use Rattle.streetmap_ledger.specs.KeptView.{keyed_batch}
use Rattle.streetmap_ledger.proofs.Calls.{read_made}
use Rattle.streetmap_journal.proofs.OneLineFurther.{kept_line_is}
use Rattle.streetmap_journal.proofs.completion.kept_line.Goals as goal

pub returns-in-Ok : goal.returns-in-Ok
returns-in-Ok g c = read_made c.in-Ok-Some.ensures (λ s e is. kept_line_is s c.args.serial (keyed_batch c.in-Ok-Some.kept) c.as_slice.result.now
    c.in-Ok.line.items
    (ap (option_map keyed_batch) (sym c.in-Ok-Some.field-0-is) ∙ is) c.as_slice.ensures.value c.in-Ok.ensures)

pub returns-in-Ok-None : goal.returns-in-Ok-None
returns-in-Ok-None g c = read_made c.in-Ok-None.ensures (λ s e is. sym (ap (option_map keyed_batch) (sym c.in-Ok-None.field-0-is) ∙ is))
