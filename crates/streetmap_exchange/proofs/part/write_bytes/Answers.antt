use Rattle.streetmap_text_lines.proofs.WriteLemmas.{first_is_beginning, first_is_less}
use Rattle.streetmap_exchange.proofs.part.write_bytes.Goals as goal

pub returns-in-Err-clause-err : goal.returns-in-Err-clause-err
returns-in-Err-clause-err g c =
    first_is_beginning c.in-Err.stopped.written (g.W.Write.contents c.args.writer.now)
    (g.W.Write.contents c.write_bytes.new.writer) c.args.bytes.now c.in-Err.ensures.err

pub returns-in-Err-clause-less : goal.returns-in-Err-clause-less
returns-in-Err-clause-less g c = λ _.
    first_is_less c.in-Err.stopped.written (g.W.Write.contents c.args.writer.now)
    (g.W.Write.contents c.write_bytes.new.writer) c.args.bytes.now c.in-Err.ensures.err
    c.in-Err.ensures.less
