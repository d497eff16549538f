use Rattle.std.proofs.Common.{◌≡◌, ◌++◌, sym, ap, ◌∙◌, arith, refl}
use Rattle.streetmap_ledger.specs.KeptView.{keyed_batch}
use Rattle.streetmap_bodies.specs.Changes.{change_line, changes_text}
use Rattle.streetmap_bodies.proofs.ChangeLines.{line_more, all_lines}
use Rattle.streetmap_bodies.proofs.changes_body.changes_text.Goals as goal

pub loop-batch-preserved : goal.loop-batch-preserved
loop-batch-preserved c =
    let batch = c.batch-item.result in
    record {
      lines = c.in_ok-add_change.ensures ∙ (ap (λ l. l ++ change_line (keyed_batch batch)) c.loop-batch.invariant.lines
          ∙ sym (line_more c.args.batches.now c.loop-batch.batch-index batch (omega arith) c.batch-item.is));
    }

pub returns : goal.returns
returns c = c.loop-batch.invariant.lines ∙ all_lines c.args.batches.now c.loop-batch.batch-index (omega arith)
