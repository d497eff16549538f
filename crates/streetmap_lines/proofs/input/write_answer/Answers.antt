use Rattle.std.proofs.Common.{◌≡◌, ◌∷◌, ◌++◌, [], OnOk, OnErr, ap, subst, ◌∙◌, string_bytes}
use Rattle.std.proofs.KnownBytes.{Appends-nil}
use Rattle.std.specs.Io.KnownBytes.{Appends}
use Rattle.streetmap_memory.specs.Plain.{IsPlainState, plain_state}
use Rattle.streetmap_lines.specs.Lines.{line_answer, answer_text}
use Rattle.streetmap_text_lines.specs.Written.{AppendsBeginning, AppendsLess}
use Rattle.streetmap_text_lines.proofs.WriteLemmas.{on_ok}
use Rattle.streetmap_lines.proofs.AnswerLemmas.{line_answered, said_text, said_none, IsLineAnswer}
use Rattle.streetmap_lines.proofs.input.write_answer.Goals as goal

pub returns-in-Some : goal.returns-in-Some
returns-in-Some g c =
    let s = plain_state c.args.keeper.now in
    let t = c.answer_line.new.keeper in
    let old_keeper = c.args.keeper.now in
    let line = c.args.line.now in
    let old = g.W.Write.contents c.args.writer.now in
    let new = g.W.Write.contents c.write_line.new.writer in
    let answer : IsPlainState old_keeper s → IsLineAnswer s line _ t = λ represented. subst (λ o. IsLineAnswer s line o t) c.in-Some.is
    (line_answered s old_keeper t line c.in_ok-answer.field-0 represented (c.in_ok-answer.ensures.answered s represented) c.in_ok-answer.ensures.empty) in
    let text : IsPlainState old_keeper s → c.as_str.result.now ++ 10 ∷ [] ≡ answer_text (line_answer s line) =
    λ represented. ap (λ l. l ++ 10 ∷ []) c.as_str.ensures.value ∙ said_text (line_answer s line) (string_bytes c.in-Some.answer) (answer represented).said in
    record {
      ok = λ represented. subst (λ l. OnOk c.write_line.result (Appends old new l)) (text represented) c.write_line.ensures.ok;
      state = λ represented. on_ok c.write_line.result _ (answer represented).state;
      err = λ represented. subst (λ l. OnErr c.write_line.result (AppendsBeginning old new l))
          (text represented) c.write_line.ensures.err;
      less = λ represented is. subst (AppendsLess old new) (text represented) (c.write_line.ensures.less is);
      flush = λ represented is. subst (Appends old new) (text represented) (c.write_line.ensures.flush is);
      fault = c.write_line.ensures.fault;
    }

pub returns-in-None : goal.returns-in-None
returns-in-None g c =
    let s = plain_state c.args.keeper.now in
    let t = c.answer_line.new.keeper in
    let old_keeper = c.args.keeper.now in
    let line = c.args.line.now in
    let old = g.W.Write.contents c.args.writer.now in
    let answer : IsPlainState old_keeper s → IsLineAnswer s line _ t = λ represented. subst (λ o. IsLineAnswer s line o t) c.in-None.is
    (line_answered s old_keeper t line c.in_ok-answer.field-0 represented (c.in_ok-answer.ensures.answered s represented) c.in_ok-answer.ensures.empty) in
    record {
      ok = λ represented. subst (Appends old old) (said_none (line_answer s line) (answer represented).said) (Appends-nil old);
      state = λ represented. (answer represented).state;
      err = λ represented. tt;
      less = λ represented is. absurd cc;
      flush = λ represented is. absurd cc;
      fault = tt;
    }
