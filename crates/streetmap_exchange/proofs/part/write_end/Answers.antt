use Rattle.std.proofs.KnownBytes.{Appends-kept}
use Rattle.streetmap_text_lines.proofs.WriteLemmas.{beginning_all}
use Rattle.streetmap_exchange.proofs.part.write_end.Goals as goal

pub returns-in-Err-clause-err : goal.returns-in-Err-clause-err
returns-in-Err-clause-err g c =
    beginning_all _ _ _
    (Appends-kept _ _ (g.W.Write.contents c.flush.new.self) _ c.in_ok-write_bytes.ensures.ok
    c.in-Err.ensures.bytes)
