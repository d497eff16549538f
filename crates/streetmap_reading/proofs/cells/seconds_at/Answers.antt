use Rattle.std.proofs.Common.{arith}
use Rattle.streetmap_reading.proofs.RowReadings.{good_of}
use Rattle.streetmap_reading.proofs.cells.seconds_at.Goals as goal

pub returns-clause-reads : goal.returns-clause-reads
returns-clause-reads c = λ s long first last.
    c.seconds_of.ensures.reads s
    (good_of (c.in_ok-first.ensures.reads _ (omega (arith, long)) first))
    (good_of (c.in_ok-last.ensures.reads _ long last))
