use Rattle.std.proofs.Math.Logic.{∥∥₁_map}
use Rattle.streetmap_connections.specs.Buffers.{history_of}
use Rattle.streetmap_connections.proofs.InOrder.{kept_by_receive}
use Rattle.streetmap_connections.proofs.connection.Connection.receive_from.Goals as goal

pub invariant_of-self : goal.invariant_of-self
invariant_of-self g c =
    record { in_order = ∥∥₁_map c.args.self.now.in_order (kept_by_receive c.receive_from.result (history_of c.args.self.now.buffers) (history_of c.receive_from.new.self) _ _ _ _ c.receive_from.ensures.ok c.receive_from.ensures.err c.receive_from.ensures.no_memory) }
