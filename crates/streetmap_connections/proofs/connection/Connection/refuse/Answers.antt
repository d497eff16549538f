use Rattle.std.proofs.Common.{sym, subst}
use Rattle.std.proofs.Math.Logic.{∥∥₁_map}
use Rattle.streetmap_connections.specs.Buffers.{history_of}
use Rattle.streetmap_connections.specs.History.{FitsStream, History}
use Rattle.streetmap_connections.proofs.InOrder.{refuse_in_order}
use Rattle.streetmap_connections.proofs.connection.Connection.refuse.Goals as goal

pub invariant_of-self : goal.invariant_of-self
invariant_of-self g c =
    let said = c.refuse.ensures in
    let old = history_of c.args.self.now.buffers in
    record { in_order = ∥∥₁_map c.args.self.now.in_order (λ (o : FitsStream old). subst (λ (h : History). FitsStream h) (sym said.refused.2) (refuse_in_order old said.refused.0 c.requires.sent c.requires.stays o)) }
