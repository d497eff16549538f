use Rattle.std.proofs.Common.{take}
use Rattle.std.specs.Io.KnownBytes.{Appends}
use Rattle.streetmap_ledger.specs.KeptView.{keyed_batches}
use Rattle.streetmap_exchange.specs.Printed.{lines_text}
use Rattle.streetmap_exchange.proofs.batch_lines.write_lines.Given as goal

-- the lines of the first batches are written
abbrev pub invariant-loop-batch : goal.invariant-loop-batch
invariant-loop-batch g l =
    let contents = g.W.Write.contents in
    let first = keyed_batches (take l.batch-index l.batches) in
    Appends (contents l.fn.writer) (contents l.writer) (lines_text first)
