use Rattle.std.proofs.Common.{◌≡◌, ◌≤◌, List, length, subst, arith, rules, of_calls}
use Rattle.std.proofs.lemmas.Fn.{always_returns_same}
use Rattle.streetmap_outlines.specs.declared.chunk.Chunk.{Chunk}
use Rattle.streetmap_outlines.proofs.InChunks.{falls_short_of, short_before, reached_here}
use Rattle.streetmap_outlines.proofs.chunks.Chunks.chunk_of.Goals as goal

pub returns-clause-before : goal.returns-clause-before
returns-clause-before c = λ features known k d h.
    let cs = c.args.self.now.chunks.items in
    let id = c.args.id.now in
    let place = c.partition_point-place.result in
    let point = c.partition_point-place.ensures.partitioned (falls_short_of id) (always_returns_same _ _ _ (λ a r g called. search (rules, of_calls))) in
    let within : place ≤ length cs = subst (λ (xs : List Chunk). place ≤ length xs) c.as_slice.ensures.value c.partition_point-place.ensures.bound in
    short_before cs c.as_slice.result.now c.as_slice.ensures.value id place point features known k d (omega arith) within

pub returns-clause-here : goal.returns-clause-here
returns-clause-here c = λ features known d h.
    let cs = c.args.self.now.chunks.items in
    let id = c.args.id.now in
    let place = c.partition_point-place.result in
    let point = c.partition_point-place.ensures.partitioned (falls_short_of id) (always_returns_same _ _ _ (λ a r g called. search (rules, of_calls))) in
    let same : c.min.result ≡ place = omega arith in
    rw same (reached_here cs c.as_slice.result.now c.as_slice.ensures.value id place point features known d (omega arith))
