use Rattle.std.proofs.Common.{◌≡◌}
use Rattle.streetmap_ledger.specs.KeptView.{keyed_batches}
use Rattle.streetmap_reading.proofs.ScannedBatches.{SoFar}
use Rattle.streetmap_reading.proofs.scans.next_batches.Given as goal

-- some first batches were taken, whose texts fit
abbrev pub invariant-rows : goal.invariant-rows
invariant-rows g l =
    (l.rows.conn.ghost_name ≡ l.fn.rows.conn.ghost_name)
    × SoFar g.S.Store l.room l.fn.rows.conn.now l.rows.conn.now
    (keyed_batches l.batches.items) l.bytes
