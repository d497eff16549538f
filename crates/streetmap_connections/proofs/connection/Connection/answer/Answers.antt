use Rattle.std.proofs.Math.Logic.{∥∥₁_map}
use Rattle.streetmap_connections.specs.Buffers.{history_of}
use Rattle.streetmap_connections.proofs.InOrder.{kept_by_answer}
use Rattle.streetmap_connections.proofs.connection.Connection.answer.Goals as goal

pub invariant_of-self : goal.invariant_of-self
invariant_of-self g c =
    record { in_order = ∥∥₁_map c.args.self.now.in_order (kept_by_answer g.V.Service.is_request c.answer.result (history_of c.args.self.now.buffers) (history_of c.answer.new.self) _ _ c.answer.ensures.answered c.answer.ensures.waits) }
