use Rattle.std.proofs.Common.{◌+◌, [], drop, refl, ap, sym, subst, arith}
use Rattle.std.proofs.lemmas.List.{drop_all}
use Rattle.streetmap_ledger.specs.Summaries.{all_vertices}
use Rattle.streetmap_outlines.specs.Outlines.{joined, IsBounded}
use Rattle.streetmap_outlines.proofs.InChunks.{next_chunk}
use Rattle.streetmap_outlines.proofs.Extents.{Growing, grows_after, all_bounds}
use Rattle.streetmap_index.proofs.summaries.extent_of.Goals as goal

pub loop-chunk-init : goal.loop-chunk-init
loop-chunk-init c = λ bounded features fs pairs. record { met = []; left = fs; whole = refl {a = fs}; pairs = pairs; bounds_are = refl {a = []} }

pub loop-chunk-preserved : goal.loop-chunk-preserved
loop-chunk-preserved c = λ bounded features fs pairs.
    let cs = c.args.chunks.now in
    let i = c.loop-chunk.chunk-index in
    let chunk = c.chunk-item.result in
    let os = chunk.outlines.items in
    let here = subst IsBounded (sym c.chunk-item.is) (bounded i chunk (omega arith)) in
    grows_after [] c.loop-chunk.bounds c.bounds_of_both-bounds.result features fs os (joined (drop (i + 1) cs))
    (subst (Growing [] c.loop-chunk.bounds features fs) (next_chunk cs i chunk os (omega arith) c.chunk-item.is refl)
    (c.loop-chunk.invariant bounded features fs pairs))
    (λ vs gs there are. c.bounds_of_both-bounds.ensures.exact vs (all_vertices gs) are (here.exact features gs there))

pub returns : goal.returns
returns c = λ bounded features fs pairs.
    let cs = c.args.chunks.now in
    all_bounds [] c.loop-chunk.bounds features fs (subst (Growing [] c.loop-chunk.bounds features fs)
    (ap joined (drop_all c.loop-chunk.chunk-index cs (omega arith))) (c.loop-chunk.invariant bounded features fs pairs))
