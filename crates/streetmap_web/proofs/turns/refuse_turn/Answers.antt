use Rattle.std.proofs.Common.{subst, true}
use Rattle.streetmap_web.specs.Turns.{WriteSays}
use Rattle.streetmap_web.proofs.turns.refuse_turn.Goals as goal

pub returns-clause-says : goal.returns-clause-says
returns-clause-says g c =
    let (answer, which, same) = c.refused-answer.ensures in (
      answer,
      which,
      subst (λ t. WriteSays c.write_answer.result t true (g.W.Write.contents c.args.writer.now) (g.W.Write.contents c.write_answer.new.writer)) same c.write_answer.ensures.says,
    )
