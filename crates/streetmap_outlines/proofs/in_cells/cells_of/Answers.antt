use Rattle.std.proofs.Common.{take, subst, arith}
use Rattle.std.proofs.lemmas.List.{take_all}
use Rattle.std.proofs.lemmas.List.Elements.{All-nil, All-more}
use Rattle.streetmap_outlines.specs.Outlines.{AreListedUnder, IsListedChunk, AreListed}
use Rattle.streetmap_outlines.proofs.Listed.{still_listed}
use Rattle.streetmap_outlines.proofs.in_cells.cells_of.Goals as goal

pub loop-chunk-init : goal.loop-chunk-init
loop-chunk-init c = All-nil (IsListedChunk _)

pub loop-chunk-preserved : goal.loop-chunk-preserved
loop-chunk-preserved c =
    let cs = c.args.chunks.now in
    let i = c.loop-chunk.chunk-index in
    let chunk = c.chunk-item.result in
    let new = c.list_outlines.new.cells in
    let here = subst (AreListedUnder new chunk.number) c.as_slice.ensures.value c.in_ok-list_outlines.ensures.listed in
    All-more (IsListedChunk new) cs i chunk (omega arith) (still_listed c.loop-chunk.cells new c.list_outlines.ensures.kept (take i cs) c.loop-chunk.invariant)
    (subst (IsListedChunk new) c.chunk-item.is here)

pub returns : goal.returns
returns c =
    let cs = c.args.chunks.now in
    let all = subst (AreListed c.loop-chunk.cells) (take_all c.loop-chunk.chunk-index cs (omega arith)) c.loop-chunk.invariant in
    still_listed c.loop-chunk.cells c.shrink_to_fit.new.self c.shrink_to_fit.ensures cs all
