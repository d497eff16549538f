use Rattle.std.proofs.Common.{List, ℕ, subst}
use Rattle.streetmap_replay.specs.Lines.{IsJournalLine}
use Rattle.streetmap_replay.specs.View.{line_value}
use Rattle.streetmap_journal.proofs.StartLemmas.{first_found}
use Rattle.streetmap_journal.proofs.starts.first_serial.Goals as goal

pub returns : goal.returns
returns g c =
    let line = c.read_line-line.result in
    let is = subst (λ (bytes : List ℕ). IsJournalLine bytes (line_value line))
    c.as_slice.ensures.value c.read_line-line.ensures in
    first_found _ _ line.serial line.text.now c.in_ok-head.ensures is
