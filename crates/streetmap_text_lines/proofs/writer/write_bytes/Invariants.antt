use Rattle.streetmap_text_lines.proofs.WriteLemmas.{IsPartWritten}
use Rattle.streetmap_text_lines.proofs.writer.write_bytes.Given as goal

abbrev pub invariant-loop-turn : goal.invariant-loop-turn
invariant-loop-turn g l =
    IsPartWritten (g.W.Write.contents l.fn.writer) (g.W.Write.contents l.writer) l.bytes l.rest
