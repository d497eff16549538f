use Rattle.std.proofs.Common.{Option, sym, ap, ◌∙◌}
use Rattle.std.specs.Option.{option_map}
use Rattle.streetmap_batch.specs.Text.{Text}
use Rattle.streetmap_ledger.specs.SummaryView.{summary_value}
use Rattle.streetmap_ledger.specs.declared.summary.Summary.{Summary}
use Rattle.streetmap_ledger.proofs.Calls.{read_made, read_failed}
use Rattle.streetmap_loading.specs.Times.{times_if}
use Rattle.streetmap_loading.proofs.times.read_times.Goals as goal

abbrev times_of : Option Summary → Option Text
times_of found = times_if (option_map summary_value found)

pub returns-in-Ok-Some : goal.returns-in-Ok-Some
returns-in-Ok-Some g c =
    read_made c.in-Ok-Some.ensures (λ s e is. ap times_of (sym c.in-Ok-Some.field-0-is) ∙ ap times_if is)

pub returns-in-Ok-None : goal.returns-in-Ok-None
returns-in-Ok-None g c =
    read_made c.in-Ok-None.ensures (λ s e is. ap times_of (sym c.in-Ok-None.field-0-is) ∙ ap times_if is)

pub returns-in-Err : goal.returns-in-Err
returns-in-Err g c = read_failed c.in-Err.ensures
