use Rattle.std.proofs.Common.{subst, ◌∙◌}
use Rattle.std.specs.Io.KnownBytes.{Appends}
use Rattle.streetmap_text_lines.specs.Written.{AppendsBeginning}
use Rattle.streetmap_text_lines.proofs.WriteLemmas.{on_err}
use Rattle.streetmap_exchange.proofs.LineLemmas.{tab_breaks, text_breaks, feed_breaks}
use Rattle.streetmap_exchange.proofs.LineLemmas.{line_written}
use Rattle.streetmap_exchange.proofs.LineLemmas.{on_ok_more, on_err_more}
use Rattle.streetmap_exchange.proofs.batch_lines.write_line.Goals as goal

pub returns-in_err-write_bytes-2-clause-err : goal.returns-in_err-write_bytes-2-clause-err
returns-in_err-write_bytes-2-clause-err g c =
    let at = g.W.Write.contents in
    let batch = c.args.batch.now in
    let serial = subst (Appends (at c.args.writer.now) (at c.write_bytes.new.writer))
    (c.as_bytes.ensures.value ∙ c.format.ensures.text) c.in_ok-write_bytes.ensures.ok in
    on_err _ _ (tab_breaks batch.serial batch.text.items _ _ serial _
    c.in_err-write_bytes-2.ensures.err)

pub returns-in_err-write_bytes-3-clause-err : goal.returns-in_err-write_bytes-3-clause-err
returns-in_err-write_bytes-3-clause-err g c =
    let at = g.W.Write.contents in
    let batch = c.args.batch.now in
    let serial = subst (Appends (at c.args.writer.now) (at c.write_bytes.new.writer))
    (c.as_bytes.ensures.value ∙ c.format.ensures.text) c.in_ok-write_bytes.ensures.ok in
    let before = at c.write_bytes-2.new.writer in
    let wrote = subst (AppendsBeginning before (at c.write_bytes-3.new.writer))
    c.as_slice.ensures.value c.in_err-write_bytes-3.ensures.err in
    on_err _ _ (text_breaks batch.serial batch.text.items _ _ serial _
    c.in_ok-write_bytes-2.ensures.ok
    _ wrote)

pub returns-clause-err : goal.returns-clause-err
returns-clause-err g c =
    let at = g.W.Write.contents in
    let batch = c.args.batch.now in
    let serial = subst (Appends (at c.args.writer.now) (at c.write_bytes.new.writer))
    (c.as_bytes.ensures.value ∙ c.format.ensures.text) c.in_ok-write_bytes.ensures.ok in
    let wrote = subst (Appends (at c.write_bytes-2.new.writer) (at c.write_bytes-3.new.writer))
    c.as_slice.ensures.value c.in_ok-write_bytes-3.ensures.ok in
    on_err_more c.write_bytes-4.result _ _ (feed_breaks batch.serial batch.text.items _ _ serial _
    c.in_ok-write_bytes-2.ensures.ok _ wrote _) c.write_bytes-4.ensures.err

pub returns-clause-ok : goal.returns-clause-ok
returns-clause-ok g c =
    let at = g.W.Write.contents in
    let batch = c.args.batch.now in
    let serial = subst (Appends (at c.args.writer.now) (at c.write_bytes.new.writer))
    (c.as_bytes.ensures.value ∙ c.format.ensures.text) c.in_ok-write_bytes.ensures.ok in
    let wrote = subst (Appends (at c.write_bytes-2.new.writer) (at c.write_bytes-3.new.writer))
    c.as_slice.ensures.value c.in_ok-write_bytes-3.ensures.ok in
    on_ok_more c.write_bytes-4.result _ _ (line_written batch.serial batch.text.items _ _ serial _
    c.in_ok-write_bytes-2.ensures.ok _ wrote _) c.write_bytes-4.ensures.ok
