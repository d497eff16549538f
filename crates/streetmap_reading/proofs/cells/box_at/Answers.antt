use Rattle.std.proofs.Common.{arith}
use Rattle.streetmap_reading.proofs.RowReadings.{good_of}
use Rattle.streetmap_reading.proofs.cells.box_at.Goals as goal

pub returns-clause-reads : goal.returns-clause-reads
returns-clause-reads c = λ b fine long x0 y0 x1 y1.
    c.box_of.ensures.reads b fine
    (good_of (c.in_ok-west.ensures.reads _ (omega (arith, long)) x0))
    (good_of (c.in_ok-south.ensures.reads _ (omega (arith, long)) y0))
    (good_of (c.in_ok-east.ensures.reads _ (omega (arith, long)) x1))
    (good_of (c.in_ok-north.ensures.reads _ long y1))
