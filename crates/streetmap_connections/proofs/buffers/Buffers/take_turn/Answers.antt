use Rattle.std.proofs.Common.{refl, ◌∙◌}
use Rattle.streetmap_connections.specs.declared.buffers.Turn.{Turn}
use Rattle.streetmap_connections.specs.Buffers.{exchange_of}
use Rattle.streetmap_connections.proofs.Answering.{history_after}
use Rattle.streetmap_connections.proofs.buffers.Buffers.take_turn.Goals as goal

pub returns-clause-answered : goal.returns-clause-answered
returns-clause-answered g c =
    let turn : Turn = record { answer = c.answer-answer.result.0; closes = c.answer-answer.result.1; len = c.args.len } in (
      exchange_of c.args.self.now.input.items turn,
      refl,
      rw c.as_slice.ensures at c.answer-answer.ensures,
      history_after c.args.self.now turn c.shrink.new.input c.and-self.result c.new.result (c.shrink.ensures ∙ c.advance.ensures.items) c.and-self.ensures c.requires.fits c.new.ensures,
    )
