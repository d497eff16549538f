use Rattle.std.proofs.Common.{◌≡◌, ◌-◌, length, Some, None, Err, sym, ap, subst, ◌∙◌}
use Rattle.std.specs.Prelude.{slice_get, IfErr}
use Rattle.std.specs.Option.{option_copied}
use Rattle.std.specs.Io.KnownBytes.{Appends}
use Rattle.std.proofs.lemmas.Result.{err_from_is_err_and}
use Rattle.streetmap_text_lines.specs.Written.{AppendsBeginning}
use Rattle.streetmap_ledger.specs.KeptView.{keyed_batch, keyed_batches}
use Rattle.streetmap_replay.specs.Calls.{AreReads}
use Rattle.streetmap_replay.proofs.CallsInTurn.{no_reads, read_of, answered_read, failed_read, reads_then}
use Rattle.streetmap_exchange.specs.Printed.{lines_text, WritesLines}
use Rattle.streetmap_exchange.specs.ExportFaults.{IsLinesFault, lines_answer}
use Rattle.streetmap_exchange.proofs.LineLemmas.{last_none, last_some}
use Rattle.streetmap_exchange.proofs.Printing.{begins, early, ends, goes_on, breaks, write_reads, write_fault}
use Rattle.streetmap_exchange.proofs.batches.write_batches.Goals as goal

pub loop-turn-init : goal.loop-turn-init
loop-turn-init g c = record {
  reads = no_reads c.args.keeper.now;
  underway = λ h s e. begins s _ _;
}

pub returns-in-Err-clause-reads : goal.returns-in-Err-clause-reads
returns-in-Err-clause-reads g c = reads_then c.loop-turn.invariant.reads (failed_read c.in-Err.ensures)

pub returns-in-Err-clause-writes : goal.returns-in-Err-clause-writes
returns-in-Err-clause-writes g c = λ h s e.
    let began = c.in-Err.ensures.call.began_clean h in
    let sound = g.K.Keeper.model.well_formed c.args.keeper.now s e in
    early s sound c.args.after c.loop-turn.last _ _ (c.loop-turn.invariant.underway began s e)

pub returns-in_default-clause-reads : goal.returns-in_default-clause-reads
returns-in_default-clause-reads g c = reads_then c.loop-turn.invariant.reads (answered_read c.in-Ok.ensures)

pub returns-in_err-write_lines-clause-reads : goal.returns-in_err-write_lines-clause-reads
returns-in_err-write_lines-clause-reads g c =
    let p = err_from_is_err_and c.from_residual.result c.from_residual.ensures.1 in
    subst (λ r. AreReads g.K.Keeper.model c.args.keeper.now c.batches.new.self (lines_answer r)) (sym (p.1 ∙ ap (λ x. Err x) p.2))
    (write_reads c.in_err-write_lines.field-0.0 c.in_err-write_lines.ensures.fault
    (reads_then c.loop-turn.invariant.reads (answered_read c.in-Ok.ensures)))

pub returns-in_err-write_lines-clause-fault : goal.returns-in_err-write_lines-clause-fault
returns-in_err-write_lines-clause-fault g c =
    let p = err_from_is_err_and c.from_residual.result c.from_residual.ensures.1 in
    subst (λ r. IfErr r IsLinesFault) (sym (p.1 ∙ ap (λ x. Err x) p.2))
    (write_fault c.in_err-write_lines.field-0.0 c.in_err-write_lines.ensures.fault)

pub returns-in_default-clause-writes : goal.returns-in_default-clause-writes
returns-in_default-clause-writes g c = λ h s e.
    let inv = c.loop-turn.invariant in
    let says = c.in-Ok.ensures in
    let began = says.call.began_clean h in
    let found = says.reads h s (inv.reads.stays began s e) in
    let sound = g.K.Keeper.model.well_formed c.args.keeper.now s e in
    let items = c.in-Ok.batches.items in
    let last : slice_get items (length items - 1) ≡ None =
    sym (ap (λ l. slice_get l (length l - 1)) c.deref.ensures.value)
    ∙ (sym c.last.ensures.value ∙ ap option_copied c.in_default.is) in
    let none = ap keyed_batches (last_none items last) in
    let it = ends s sound c.args.after c.loop-turn.last _ _
    (inv.underway began s e) _ _ found.0 none in
    (it.0, it.1)

pub returns-in_err-write_lines-clause-writes : goal.returns-in_err-write_lines-clause-writes
returns-in_err-write_lines-clause-writes g c = λ h s e.
    let at = g.W.Write.contents in
    let inv = c.loop-turn.invariant in
    let says = c.in-Ok.ensures in
    let began = says.call.began_clean h in
    let found = says.reads h s (inv.reads.stays began s e) in
    let sound = g.K.Keeper.model.well_formed c.args.keeper.now s e in
    let items = c.in-Ok.batches.items in
    let latest = c.in-Some.latest.now in
    let last : slice_get items (length items - 1) ≡ Some latest =
    sym (ap (λ l. slice_get l (length l - 1)) c.deref.ensures.value)
    ∙ (sym c.last.ensures.value ∙ ap option_copied c.in-Some.is) in
    let of_last = last_some items latest last in
    let wrote = subst (λ l. AppendsBeginning (at c.loop-turn.writer) (at c.write_lines.new.writer)
    (lines_text (keyed_batches l))) c.as_slice.ensures.value c.in_err-write_lines.ensures.err in
    let first = breaks s sound c.args.after c.loop-turn.last _ _
    (inv.underway began s e) _ _ found.0
    (length items - 1) (keyed_batch latest) of_last.0 of_last.1 _ wrote in
    let p = err_from_is_err_and c.from_residual.result c.from_residual.ensures.1 in
    subst (λ r. WritesLines s c.args.after r (at c.args.writer.now) (at c.write_lines.new.writer)) (sym (p.1 ∙ ap (λ x. Err x) p.2)) first

pub loop-turn-preserved : goal.loop-turn-preserved
loop-turn-preserved g c =
    let at = g.W.Write.contents in
    let inv = c.loop-turn.invariant in
    let says = c.in-Ok.ensures in
    let items = c.in-Ok.batches.items in
    let latest = c.in-Some.latest.now in
    let last : slice_get items (length items - 1) ≡ Some latest =
    sym (ap (λ l. slice_get l (length l - 1)) c.deref.ensures.value)
    ∙ (sym c.last.ensures.value ∙ ap option_copied c.in-Some.is) in
    let of_last = last_some items latest last in
    let wrote = subst (λ l. Appends (at c.loop-turn.writer) (at c.write_lines.new.writer)
    (lines_text (keyed_batches l))) c.as_slice.ensures.value c.in_ok-write_lines.ensures.ok in
    record {
      reads = reads_then inv.reads (read_of says);
      underway = λ h s e.
          let began = says.call.began_clean h in
          let found = says.reads h s (inv.reads.stays began s e) in
          let sound = g.K.Keeper.model.well_formed c.args.keeper.now s e in
          goes_on s sound c.args.after c.loop-turn.last _ _ (inv.underway began s e) _ _ found.0
          (length items - 1) (keyed_batch latest) of_last.0 of_last.1 _ wrote;
    }

pub returns-clause-writes : goal.returns-clause-writes
returns-clause-writes g c = λ h s e.
    let sound = g.K.Keeper.model.well_formed c.args.keeper.now s e in
    early s sound c.args.after c.loop-turn.last _ _ (c.loop-turn.invariant.underway h s e)
