use Rattle.std.proofs.Common.{◌≡◌, ◌+◌, false, not, Option, [], length, drop, ap, sym, subst, refl, ◌∙◌, arith}
use Rattle.std.specs.FinMap.{values}
use Rattle.std.proofs.lemmas.List.{drop_all}
use Rattle.std.proofs.lemmas.Bool.{not-true}
use Rattle.streetmap_query.specs.Views.{query_value}
use Rattle.streetmap_ledger.specs.Pages.{candidates, page_over}
use Rattle.streetmap_ledger.specs.Folds.{HoldsCandidates}
use Rattle.streetmap_ledger.proofs.Examining.{same_page}
use Rattle.streetmap_ledger.proofs.Calls.{no_read, read_so, read_then, read_made, read_failed, read_after}
use Rattle.streetmap_outlines.specs.Outlines.{joined, LiesWithin, AreOutlines, IsBounded, AreBounded, IsListedChunk, AreListed}
use Rattle.streetmap_outlines.proofs.Covering.{passed_over}
use Rattle.streetmap_outlines.specs.Selections.{is_marked_if}
use Rattle.streetmap_cells.specs.declared.marks.Marks.{Marks}
use Rattle.streetmap_outlines.proofs.Listed.{unmarked_over}
use Rattle.streetmap_outlines.proofs.InChunks.{next_chunk}
use Rattle.streetmap_outlines.proofs.Ordered.{chunk_in_order}
use Rattle.streetmap_outlines.proofs.Pairing.{Going, paired, goes_on_after, all_met}
use Rattle.streetmap_index.proofs.page.page_by_outlines.Goals as goal

pub loop-chunk-init : goal.loop-chunk-init
loop-chunk-init g c = no_read c.args.keeper.now tt c.requires (λ s e d there known.
    let sound = g.K.Keeper.model.well_formed c.args.keeper.now s e in
    record {
      met = [];
      left = values d.features;
      whole = refl {a = values d.features};
      pairs = paired (joined c.as_slice-chunks.result.now) d (subst (λ cs. AreOutlines (joined cs) d.features) (sym c.as_slice-chunks.ensures.value)
          known.chunks.outlines) (sound.made _ d there).holds;
      holds = record { holds = c.new-fold.ensures; whole = refl {a = []} };
    })

pub loop-chunk-preserved-then-is_passed_over : goal.loop-chunk-preserved-then-is_passed_over
loop-chunk-preserved-then-is_passed_over g c =
    let inv = c.loop-chunk.invariant in
    let q = query_value c.args.query.now in
    let cs = c.as_slice-chunks.result.now in
    let i = c.loop-chunk.chunk-index in
    let chunk = c.chunk-item.result in
    read_so inv (λ s _ e going d there known.
    let fold = c.loop-chunk.fold in
    let bounded = subst IsBounded (sym c.chunk-item.is) (subst AreBounded (sym c.as_slice-chunks.ensures.value) known.chunks.bounded i chunk (omega arith)) in
    goes_on_after q fold fold d.features (values d.features) chunk.outlines.items (joined (drop (i + 1) cs))
    (subst (Going q fold d.features (values d.features)) (next_chunk cs i chunk chunk.outlines.items (omega arith) c.chunk-item.is refl) (going d there known))
    (passed_over (λ o. LiesWithin o.extent chunk.bounds) c.args.query.now fold d.features (c.is_passed_over.ensures c.if-is_passed_over.true)
    chunk.outlines.items bounded.within))

pub loop-chunk-preserved-then-count_chunk : goal.loop-chunk-preserved-then-count_chunk
loop-chunk-preserved-then-count_chunk g c =
    let inv = c.loop-chunk.invariant in
    let q = query_value c.args.query.now in
    let cs = c.as_slice-chunks.result.now in
    let i = c.loop-chunk.chunk-index in
    let chunk = c.chunk-item.result in
    read_so inv (λ s _ e going d there known.
    let bounded = subst IsBounded (sym c.chunk-item.is) (subst AreBounded (sym c.as_slice-chunks.ensures.value) known.chunks.bounded i chunk (omega arith)) in
    let order = chunk_in_order cs i chunk d.features (subst (λ xs. AreOutlines (joined xs) d.features) (sym c.as_slice-chunks.ensures.value)
    known.chunks.outlines) (omega arith) c.chunk-item.is in
    goes_on_after q c.loop-chunk.fold c.count_chunk.new.fold d.features (values d.features) chunk.outlines.items (joined (drop (i + 1) cs))
    (subst (Going q c.loop-chunk.fold d.features (values d.features)) (next_chunk cs i chunk chunk.outlines.items (omega arith) c.chunk-item.is refl)
    (going d there known))
    (c.count_chunk.ensures.counted c.if-count_chunk.true bounded order d.features))

pub loop-chunk-preserved-then-is_unmarked : goal.loop-chunk-preserved-then-is_unmarked
loop-chunk-preserved-then-is_unmarked g c =
    let inv = c.loop-chunk.invariant in
    let q = query_value c.args.query.now in
    let cs = c.as_slice-chunks.result.now in
    let i = c.loop-chunk.chunk-index in
    let chunk = c.chunk-item.result in
    let outlines = c.args.outlines.now in
    let off : is_marked_if c.marks-found.result chunk.number ≡ false =
    not-true (is_marked_if c.marks-found.result chunk.number) (ap (λ (m : Option Marks). not (is_marked_if m chunk.number)) (sym c.as_ref-marks.ensures.value)
    ∙ (sym c.is_unmarked.ensures ∙ c.if-is_unmarked.true)) in
    read_so inv (λ s _ e going d there known.
    let fold = c.loop-chunk.fold in
    let listed = subst (IsListedChunk outlines.cells) (sym c.chunk-item.is) (subst (AreListed outlines.cells) (sym c.as_slice-chunks.ensures.value) known.listed
    i chunk (omega arith)) in
    goes_on_after q fold fold d.features (values d.features) chunk.outlines.items (joined (drop (i + 1) cs))
    (subst (Going q fold d.features (values d.features)) (next_chunk cs i chunk chunk.outlines.items (omega arith) c.chunk-item.is refl) (going d there known))
    (unmarked_over outlines c.args.query.now c.marks-found.result c.marks-found.ensures fold d.features chunk off listed))

pub loop-chunk-preserved : goal.loop-chunk-preserved
loop-chunk-preserved g c =
    let inv = c.loop-chunk.invariant in
    let q = query_value c.args.query.now in
    let cs = c.as_slice-chunks.result.now in
    let i = c.loop-chunk.chunk-index in
    let chunk = c.chunk-item.result in
    read_after inv c.in-Ok-true.ensures (λ s e going takes d there known.
    let bounded = subst IsBounded (sym c.chunk-item.is) (subst AreBounded (sym c.as_slice-chunks.ensures.value) known.chunks.bounded i chunk (omega arith)) in
    goes_on_after q c.loop-chunk.fold c.take_outlined.new.fold d.features (values d.features) chunk.outlines.items (joined (drop (i + 1) cs))
    (subst (Going q c.loop-chunk.fold d.features (values d.features)) (next_chunk cs i chunk chunk.outlines.items (omega arith) c.chunk-item.is refl)
    (going d there known))
    (λ met fs pairs held.
    takes c.in-Ok-true.field-0-test d met fs there bounded pairs
    (subst (λ fold. HoldsCandidates q fold met) (sym (c.count_chunk.ensures.unchanged c.if-count_chunk.false)) held)))

pub returns-in-Err : goal.returns-in-Err
returns-in-Err g c =
    let model = g.K.Keeper.model in
    read_failed (read_then c.loop-chunk.invariant c.in-Err.ensures (λ s y e going takes. takes))

pub returns-in-Ok-false : goal.returns-in-Ok-false
returns-in-Ok-false g c = read_after c.loop-chunk.invariant c.in-Ok-false.ensures (λ s e going takes. tt)

pub returns-in-Ok : goal.returns-in-Ok
returns-in-Ok g c =
    let q = query_value c.args.query.now in
    let cs = c.as_slice-chunks.result.now in
    read_made c.loop-chunk.invariant (λ s e going d there known.
    let all = subst (Going q c.loop-chunk.fold d.features (values d.features)) (ap joined (drop_all c.loop-chunk.chunk-index cs (omega arith)))
    (going d there known) in
    let met = candidates q all.met in
    c.in-Ok.ensures q met all.holds.holds ∙ (same_page q (length met) met all.met all.holds.whole
    ∙ ap (page_over q) (all_met q c.loop-chunk.fold d.features (values d.features) all)))
