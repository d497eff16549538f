use Rattle.std.proofs.Common.{subst, [], ◌∷◌, ◌++◌}
use Rattle.std.proofs.KnownBytes.{Appends-trans, Appends-kept}
use Rattle.std.specs.Io.KnownBytes.{Appends}
use Rattle.streetmap_text_lines.proofs.WriteLemmas.{beginning_after, beginning_all, on_err}
use Rattle.streetmap_lines.proofs.input.write_line.Goals as goal

pub returns-in_err-write_bytes-2-clause-err : goal.returns-in_err-write_bytes-2-clause-err
returns-in_err-write_bytes-2-clause-err g c =
    let old = g.W.Write.contents c.args.writer.now in
    let text = subst (Appends old (g.W.Write.contents c.write_bytes.new.writer)) c.as_bytes.ensures.value c.in_ok-write_bytes.ensures.ok in
    on_err c.from_residual-in_err-write_bytes-2.result _
    (beginning_after old _ (g.W.Write.contents c.write_bytes-2.new.writer) c.args.answer.now
    (10 ∷ []) text c.in_err-write_bytes-2.ensures.err)

pub returns-in-Err-clause-err : goal.returns-in-Err-clause-err
returns-in-Err-clause-err g c =
    let old = g.W.Write.contents c.args.writer.now in
    let text = subst (Appends old (g.W.Write.contents c.write_bytes.new.writer)) c.as_bytes.ensures.value c.in_ok-write_bytes.ensures.ok in
    let both = Appends-trans old _ (g.W.Write.contents c.write_bytes-2.new.writer) c.args.answer.now (10 ∷ []) text c.in_ok-write_bytes-2.ensures.ok in
    beginning_all old _ (c.args.answer.now ++ 10 ∷ [])
    (Appends-kept old _ (g.W.Write.contents c.flush.new.self) (c.args.answer.now ++ 10 ∷ [])
    both c.in-Err.ensures.bytes)
