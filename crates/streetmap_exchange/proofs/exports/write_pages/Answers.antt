use Rattle.std.proofs.Common.{◌≡◌, ◌||◌, Some, Err, arith, vec_len, ap, sym, subst, ◌∙◌}
use Rattle.std.proofs.lemmas.Result.{err_from_is_err_and}
use Rattle.std.specs.Io.KnownBytes.{Appends}
use Rattle.streetmap_ledger.specs.PageView.{page_value}
use Rattle.streetmap_text_lines.specs.Written.{AppendsBeginning, AppendsLess}
use Rattle.streetmap_exchange.proofs.ExportLemmas.{Underway, is_any, begins, begins_early, begins_less, breaks_off, breaks_off_less}
use Rattle.streetmap_exchange.proofs.ExportLemmas.{less_written, part_written, write_reads, end_reads, goes_further, write_ends, page_ends, end_exports}
use Rattle.streetmap_exchange.proofs.ExportLemmas.{page_part, some_before, some_here}
use Rattle.streetmap_replay.specs.Calls.{AreReads}
use Rattle.streetmap_replay.proofs.CallsInTurn.{no_reads_open, no_fault_read, reads_then}
use Rattle.streetmap_exchange.specs.ExportFaults.{export_answer}
use Rattle.streetmap_exchange.proofs.exports.write_pages.Goals as goal
use Rattle.streetmap_exchange.proofs.exports.write_pages.Goals.{then-later, else-later}

pub returns-in_err-write_bytes-clause-exports : goal.returns-in_err-write_bytes-clause-exports
returns-in_err-write_bytes-clause-exports g c = λ h s e first.
    let p = err_from_is_err_and c.from_residual.result c.from_residual.ensures.1 in
    write_ends s _ c.from_residual.result c.in_err-write_bytes.field-0.0 _ _ (p.1 ∙ ap (λ x. Err x) p.2) c.in_err-write_bytes.ensures.fault
    (begins_early s _ _ _ _ first c.in_err-write_bytes.ensures.err)
    (λ is. begins_less s _ _ _ _ first (c.in_err-write_bytes.ensures.less (ap (λ x. Err x) is)))

pub returns-in_err-write_bytes-clause-reads : goal.returns-in_err-write_bytes-clause-reads
returns-in_err-write_bytes-clause-reads g c =
    let p = err_from_is_err_and c.from_residual.result c.from_residual.ensures.1 in
    write_reads c.from_residual.result c.in_err-write_bytes.field-0.0 (p.1 ∙ ap (λ x. Err x) p.2) c.in_err-write_bytes.ensures.fault
    (no_reads_open c.args.keeper.now c.requires)

pub loop-turn-init : goal.loop-turn-init
loop-turn-init g c = record {
  reads = no_reads_open c.args.keeper.now c.requires;
  underway = λ h s e first. begins s _ _ _ _ (g.K.Keeper.model.well_formed c.args.keeper.now s e) first c.in_ok-write_bytes.ensures.ok;
}

pub returns-in_err-write_part-clause-reads : goal.returns-in_err-write_part-clause-reads
returns-in_err-write_part-clause-reads g c =
    let r = c.from_residual-in_err-write_part in
    let p = err_from_is_err_and r.result r.ensures.1 in
    write_reads r.result c.in_err-write_part.field-0.0 (p.1 ∙ ap (λ x. Err x) p.2) c.in_err-write_part.ensures.fault c.loop-turn.invariant.reads

pub returns-in_err-write_part-clause-exports : goal.returns-in_err-write_part-clause-exports
returns-in_err-write_part-clause-exports g c = λ h s e first.
    let inv = c.loop-turn.invariant in
    let p = err_from_is_err_and c.from_residual-in_err-write_part.result c.from_residual-in_err-write_part.ensures.1 in
    let before = g.W.Write.contents c.loop-turn.writer in
    let after = g.W.Write.contents c.write_part.new.writer in
    let part = subst (AppendsBeginning before after)
    (page_part c.loop-turn.later c.as_slice.result.now _ c.as_slice.ensures.value)
    c.in_err-write_part.ensures.err in
    write_ends s _ c.from_residual-in_err-write_part.result c.in_err-write_part.field-0.0 _ _ (p.1 ∙ ap (λ x. Err x) p.2) c.in_err-write_part.ensures.fault
    (breaks_off s _ _ before after _ _ (inv.underway h s e first) part)
    (λ is. breaks_off_less s _ _ before after _ _ (inv.underway h s e first)
    (subst (AppendsLess before after)
    (page_part c.loop-turn.later c.as_slice.result.now _ c.as_slice.ensures.value)
    (c.in_err-write_part.ensures.less (ap (λ x. Err x) is))))

pub returns-in_err-page-in-Some-clause-reads : goal.returns-in_err-page-in-Some-clause-reads
returns-in_err-page-in-Some-clause-reads g c =
    let r = c.from_residual-in_err-page-in-Some in
    let p = err_from_is_err_and r.result r.ensures.1 in
    subst (λ x. AreReads g.K.Keeper.model c.args.keeper.now c.page_after.new.keeper (export_answer x)) (sym (p.1 ∙ ap (λ x. Err x) p.2))
    (reads_then (no_fault_read c.loop-turn.invariant.reads) c.in_err-page-in-Some.ensures.reads)

pub returns-in_err-page-in-Some-clause-exports : goal.returns-in_err-page-in-Some-clause-exports
returns-in_err-page-in-Some-clause-exports g c = λ h s e first.
    let inv = c.loop-turn.invariant in
    let r = c.from_residual-in_err-page-in-Some in
    let p = err_from_is_err_and r.result r.ensures.1 in
    let says = c.in_err-page-in-Some.ensures in
    let began = says.reads.calls.began_clean h in
    let before = g.W.Write.contents c.loop-turn.writer in
    let after = g.W.Write.contents c.write_part.new.writer in
    let part = subst (Appends before after) (page_part c.loop-turn.later c.as_slice.result.now _ c.as_slice.ensures.value) c.in_ok-write_part.ensures.ok in
    page_ends s _ (Some c.in-Some.id) r.result c.in_err-page-in-Some.field-0.0 _ _ (p.1 ∙ ap (λ x. Err x) p.2) (says.shows h s (inv.reads.stays began s e))
    (part_written s _ _ before after _ _ (inv.underway began s e first) part)

pub returns-in-None-clause-reads : goal.returns-in-None-clause-reads
returns-in-None-clause-reads g c = end_reads c.write_end.result c.write_end.ensures.fault c.loop-turn.invariant.reads

pub returns-in-None-clause-exports : goal.returns-in-None-clause-exports
returns-in-None-clause-exports g c = λ h s e first.
    let inv = c.loop-turn.invariant in
    let before = g.W.Write.contents c.loop-turn.writer in
    let after = g.W.Write.contents c.write_part.new.writer in
    let part = subst (Appends before after) (page_part c.loop-turn.later c.as_slice.result.now _ c.as_slice.ensures.value) c.in_ok-write_part.ensures.ok in
    end_exports s _ _ before after (g.W.Write.contents c.write_end.new.writer) _ _ c.write_end.result (inv.underway h s e first)
    (sym c.next_id.ensures ∙ c.in-None.is) part c.write_end.ensures.ok c.write_end.ensures.err c.write_end.ensures.less c.write_end.ensures.flush
    c.write_end.ensures.fault

pub loop-turn-preserved : goal.loop-turn-preserved
loop-turn-preserved g c =
    let inv = c.loop-turn.invariant in
    let says = c.in_ok-page-in-Some.ensures in
    let before = g.W.Write.contents c.loop-turn.writer in
    let after = g.W.Write.contents c.write_part.new.writer in
    let page = page_value c.loop-turn.page in
    let part = subst (Appends before after) (page_part c.loop-turn.later c.as_slice.result.now _ c.as_slice.ensures.value) c.in_ok-write_part.ensures.ok in
    let more : page.next ≡ Some c.in-Some.id = sym c.next_id.ensures ∙ c.in-Some.is in
    let later : (c.loop-turn.later || is_any page.features) ≡ c.if-later.later = elim c.if-later.branch [
      | then-later w ↦ some_before c.loop-turn.later c.if-later.later (is_any page.features) w.if-later.true w.later-is
      | else-later w ↦ some_here c.loop-turn.later c.if-later.later w.is_empty.result page.features (vec_len c.loop-turn.page.features) w.if-later.false
          (omega (arith, c.loop-turn.page.features.ok.0)) w.is_empty.ensures w.later-is
    ] in
    record {
      reads = reads_then (no_fault_read inv.reads) says.reads;
      underway = λ h s e first.
          let began = says.reads.calls.began_clean h in
          let shown = says.shows h s (inv.reads.stays began s e) in
          subst (λ b. Underway s c.args.collection.now (g.W.Write.contents c.args.writer.now) after b (page_value c.in_ok-page-in-Some.page)) later
          (goes_further s c.args.collection.now _ before after _ page _ c.in-Some.id (inv.underway began s e first) more shown part);
    }

pub returns-clause-exports : goal.returns-clause-exports
returns-clause-exports g c = λ h s e first. less_written s _ _ _ _ _ (c.loop-turn.invariant.underway h s e first)
