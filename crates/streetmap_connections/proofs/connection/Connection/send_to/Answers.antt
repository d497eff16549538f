use Rattle.std.proofs.Math.Logic.{∥∥₁_map}
use Rattle.streetmap_connections.specs.Buffers.{history_of}
use Rattle.streetmap_connections.proofs.InOrder.{kept_by_send}
use Rattle.streetmap_connections.proofs.connection.Connection.send_to.Goals as goal

pub invariant_of-self : goal.invariant_of-self
invariant_of-self g c =
    record { in_order = ∥∥₁_map c.args.self.now.in_order (kept_by_send c.send_to.result (history_of c.args.self.now.buffers) (history_of c.send_to.new.self) _ _ c.send_to.ensures.ok c.send_to.ensures.err) }
