use Rattle.std.proofs.Common.{subst, sym}
use Rattle.streetmap_text_lines.proofs.WriteLemmas.{part_sliced, part_kept, IsPartWritten}
use Rattle.streetmap_text_lines.proofs.writer.write_bytes.Goals.{in-Ok, in-Err}
use Rattle.streetmap_text_lines.proofs.writer.write_bytes.Goals as goal

pub loop-turn-preserved : goal.loop-turn-preserved
loop-turn-preserved g c =
    let old = g.W.Write.contents c.args.writer.now in
    let before = g.W.Write.contents c.loop-turn.writer in
    let after = g.W.Write.contents c.write.new.self in
    let bytes = c.args.bytes.now in
    let rest = c.loop-turn.rest.now in
    elim c.match-write.branch [
      | in-Ok w ↦ subst (λ r. IsPartWritten old after bytes r.now) (sym w.rest-is)
          (part_sliced old before after bytes rest w.in-Ok.count c.loop-turn.invariant
          w.in-Ok.ensures.bytes)
      | in-Err w ↦ subst (λ r. IsPartWritten old after bytes r.now) (sym w.rest-is)
          (part_kept old before after bytes rest c.loop-turn.invariant w.in-Err.ensures.bytes)
    ]
