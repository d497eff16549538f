use Rattle.std.proofs.Common.{refl}
use Rattle.streetmap_batch.specs.ParsedBatches.{batch_of}
use Rattle.streetmap_memory.specs.Plain.{plain_model}
use Rattle.streetmap_lines.specs.Answers.{batch_answer}
use Rattle.streetmap_lines.proofs.AnswerLemmas.{says_before}
use Rattle.streetmap_lines.proofs.answer.answer_batch.Goals as goal

pub returns-in-Err : goal.returns-in-Err
returns-in-Err c s plain =
    says_before plain_model s (batch_answer s (batch_of c.args.text.now)) c.in-Err.field-0
    c.answer_batch_over.new.keeper refl (c.in-Err.ensures.says tt s plain)
