use Rattle.std.proofs.Common.{◌+◌, ◌-◌, ◌<◌, ◌≡◌, length, arith, ap, ◌∙◌}
use Rattle.std.specs.Ordering.{is_ge}
use Rattle.streetmap_batch.specs.Text.{text_cmp}
use Rattle.streetmap_outlines.specs.Chunks.{reaches}
use Rattle.streetmap_outlines.proofs.InChunks.{last_reaches}
use Rattle.streetmap_outlines.proofs.chunk.Chunk.reaches.Goals as goal

pub returns-in-Some : goal.returns-in-Some
returns-in-Some c =
    let id = c.args.id.now in
    let os = c.deref.result.now in
    let some : 0 < length os = c.in-Some.ensures.item.3.0 in
    let last : length os - 1 + 1 ≡ length os = omega arith in
    c.ge.ensures
    ∙ (ap (λ own. is_ge (text_cmp own id)) c.as_str.ensures.value ∙ (last_reaches id os (length os - 1) c.in-Some.outline.now last c.in-Some.ensures.item.1
    ∙ ap (reaches id) c.deref.ensures.value))
