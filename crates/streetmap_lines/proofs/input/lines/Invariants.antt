use Rattle.streetmap_memory.specs.Plain.{IsPlainState, plain_state}
use Rattle.streetmap_text_lines.specs.LineReads.{WhereKnown}
use Rattle.streetmap_lines.proofs.AnswerLemmas.{IsAnswered}
use Rattle.streetmap_lines.proofs.input.lines.Given as goal

-- the lines read so far are answered, and the keeper stands for the state of its maps
abbrev pub invariant-loop-turn : goal.invariant-loop-turn
invariant-loop-turn g l = record {
  answered : WhereKnown (g.R.Read.remaining l.fn.reader) (g.R.Read.remaining l.reader)
      (λ input rest. IsAnswered input rest (g.W.Write.contents l.fn.writer) (g.W.Write.contents l.writer) (plain_state l.keeper));
  represented : IsPlainState l.keeper (plain_state l.keeper);
}
