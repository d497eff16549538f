use Rattle.std.proofs.Common.{◌<◌, length, arith}
use Rattle.streetmap_text_lines.proofs.WriteLemmas.{on_err}
use Rattle.streetmap_exchange.proofs.LineLemmas.{lines_break, lines_grow}
use Rattle.streetmap_exchange.proofs.batch_lines.write_lines.Goals as goal

pub returns-in_err-write_line-clause-err : goal.returns-in_err-write_line-clause-err
returns-in_err-write_line-clause-err g c =
    let xs = c.args.batches.now in
    let i = c.loop-batch.batch-index in
    let low : i < length xs = omega arith in
    on_err _ _ (lines_break xs i c.batch-item.result low c.batch-item.is _ _ _
    c.loop-batch.invariant
    c.in_err-write_line.ensures.err)

pub loop-batch-preserved : goal.loop-batch-preserved
loop-batch-preserved g c =
    let xs = c.args.batches.now in
    let i = c.loop-batch.batch-index in
    let low : i < length xs = omega arith in
    lines_grow xs i c.batch-item.result low c.batch-item.is _ _ _ c.loop-batch.invariant
    c.in_ok-write_line.ensures.ok
