use Rattle.std.proofs.Common.{◌∙◌, ap, sym, refl, subst, Err}
use Rattle.std.proofs.lemmas.Result.{err_from_is_err_and}
use Rattle.streetmap_memory.specs.Plain.{IsPlainState, plain_state}
use Rattle.streetmap_lines.specs.Lines.{line_answer, state_after, answer_text}
use Rattle.streetmap_text_lines.specs.LineReads.{TakesLine}
use Rattle.streetmap_text_lines.specs.Written.{AppendsBeginning, AppendsLess}
use Rattle.streetmap_text_lines.proofs.WriteLemmas.{on_err}
use Rattle.std.specs.Io.KnownBytes.{Appends}
use Rattle.streetmap_lines.proofs.AnswerLemmas.{answered_none, answered_more, answered_first, answered_begun, answered_partly, answered_less}
use Rattle.streetmap_lines.proofs.AnswerLemmas.{represents_own}
use Rattle.streetmap_lines.proofs.input.lines.Goals as goal

pub loop-turn-init : goal.loop-turn-init
loop-turn-init g c = record {
  answered = answered_none (g.R.Read.remaining c.args.reader.now) (g.W.Write.contents c.args.writer.now) (plain_state c.new-keeper.result)
      c.new-keeper.ensures.is;
  represented = represents_own c.new-keeper.result _ c.new-keeper.ensures;
}

pub returns-in_err-next_line-clause-read_failed : goal.returns-in_err-next_line-clause-read_failed
returns-in_err-next_line-clause-read_failed g c = λ _. answered_first _ _ _ _ (plain_state c.loop-turn.keeper) c.loop-turn.invariant.answered

pub returns-in_err-next_line-clause-err : goal.returns-in_err-next_line-clause-err
returns-in_err-next_line-clause-err g c = on_err c.from_residual.result _ (answered_begun _ _ _ _ (plain_state c.loop-turn.keeper)
    c.loop-turn.invariant.answered)

pub returns-in_err-write_answer-in-Text-clause-err : goal.returns-in_err-write_answer-in-Text-clause-err
returns-in_err-write_answer-in-Text-clause-err g c =
    let rest = g.R.Read.remaining c.loop-turn.reader in
    let later = g.R.Read.remaining c.next_line.new.reader in
    let before = plain_state c.loop-turn.keeper in
    let line = c.in-Text.line.items in
    let taken = subst (TakesLine 8388608 rest later) c.in-Text.is c.in_ok-next_line.ensures.taken in
    let partly = subst (λ l. AppendsBeginning (g.W.Write.contents c.loop-turn.writer)
    (g.W.Write.contents c.write_answer.new.writer) (answer_text (line_answer before l)))
    c.as_slice.ensures.value (c.in_err-write_answer-in-Text.ensures.err c.loop-turn.invariant.represented) in
    on_err c.from_residual-in_err-write_answer-in-Text.result _
    (answered_partly (g.R.Read.remaining c.args.reader.now) rest later (g.W.Write.contents c.args.writer.now) _ (g.W.Write.contents c.write_answer.new.writer)
    line before
    c.loop-turn.invariant.answered taken partly)

pub returns-in_err-write_answer-in-Text-clause-write_failed : goal.returns-in_err-write_answer-in-Text-clause-write_failed
returns-in_err-write_answer-in-Text-clause-write_failed g c = λ is.
    let rest = g.R.Read.remaining c.loop-turn.reader in
    let later = g.R.Read.remaining c.next_line.new.reader in
    let before = plain_state c.loop-turn.keeper in
    let line = c.in-Text.line.items in
    let taken = subst (TakesLine 8388608 rest later) c.in-Text.is c.in_ok-next_line.ensures.taken in
    let r = c.from_residual-in_err-write_answer-in-Text in
    let p = err_from_is_err_and r.result r.ensures.1 in
    let failed = sym (p.1 ∙ ap (λ x. Err x) p.2) ∙ is in
    let less = subst (λ l. AppendsLess (g.W.Write.contents c.loop-turn.writer) (g.W.Write.contents c.write_answer.new.writer)
    (answer_text (line_answer before l)))
    c.as_slice.ensures.value (c.in_err-write_answer-in-Text.ensures.less c.loop-turn.invariant.represented failed) in
    answered_less (g.R.Read.remaining c.args.reader.now) rest later (g.W.Write.contents c.args.writer.now) _ (g.W.Write.contents c.write_answer.new.writer) line
    before
    c.loop-turn.invariant.answered taken less

pub returns-in_err-write_answer-in-Text-clause-flush_failed : goal.returns-in_err-write_answer-in-Text-clause-flush_failed
returns-in_err-write_answer-in-Text-clause-flush_failed g c = λ is.
    let rest = g.R.Read.remaining c.loop-turn.reader in
    let later = g.R.Read.remaining c.next_line.new.reader in
    let before = plain_state c.loop-turn.keeper in
    let line = c.in-Text.line.items in
    let taken = subst (TakesLine 8388608 rest later) c.in-Text.is c.in_ok-next_line.ensures.taken in
    let r = c.from_residual-in_err-write_answer-in-Text in
    let p = err_from_is_err_and r.result r.ensures.1 in
    let failed = sym (p.1 ∙ ap (λ x. Err x) p.2) ∙ is in
    let written = subst (λ l. Appends (g.W.Write.contents c.loop-turn.writer) (g.W.Write.contents c.write_answer.new.writer)
    (answer_text (line_answer before l)))
    c.as_slice.ensures.value (c.in_err-write_answer-in-Text.ensures.flush c.loop-turn.invariant.represented failed) in
    answered_first (g.R.Read.remaining c.args.reader.now) later (g.W.Write.contents c.args.writer.now) (g.W.Write.contents c.write_answer.new.writer)
    (state_after before line)
    (answered_more (g.R.Read.remaining c.args.reader.now) rest later (g.W.Write.contents c.args.writer.now) _ (g.W.Write.contents c.write_answer.new.writer)
    line before
    (state_after before line) c.loop-turn.invariant.answered taken written refl)

pub loop-turn-preserved : goal.loop-turn-preserved
loop-turn-preserved g c =
    let rest = g.R.Read.remaining c.loop-turn.reader in
    let later = g.R.Read.remaining c.next_line.new.reader in
    let before = plain_state c.loop-turn.keeper in
    let line = c.in-Text.line.items in
    let taken = subst (TakesLine 8388608 rest later) c.in-Text.is c.in_ok-next_line.ensures.taken in
    let written = subst (λ l. Appends (g.W.Write.contents c.loop-turn.writer) (g.W.Write.contents c.write_answer.new.writer)
    (answer_text (line_answer before l)))
    c.as_slice.ensures.value (c.in_ok-write_answer-in-Text.ensures.ok c.loop-turn.invariant.represented) in
    let state = subst (λ l. IsPlainState c.write_answer.new.keeper (state_after before l)) c.as_slice.ensures.value
    (c.in_ok-write_answer-in-Text.ensures.state c.loop-turn.invariant.represented) in
    record {
      answered = answered_more (g.R.Read.remaining c.args.reader.now) rest later (g.W.Write.contents c.args.writer.now) _
          (g.W.Write.contents c.write_answer.new.writer) line before
          (plain_state c.write_answer.new.keeper) c.loop-turn.invariant.answered taken written state.is;
      represented = represents_own c.write_answer.new.keeper _ state;
    }

pub returns-clause-read_failed : goal.returns-clause-read_failed
returns-clause-read_failed g c = λ _. answered_first _ _ _ _ (plain_state c.loop-turn.keeper) c.loop-turn.invariant.answered

pub returns-clause-err : goal.returns-clause-err
returns-clause-err g c = answered_begun _ _ _ _ (plain_state c.loop-turn.keeper) c.loop-turn.invariant.answered
