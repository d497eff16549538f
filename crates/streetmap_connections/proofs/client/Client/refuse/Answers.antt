use Rattle.std.proofs.Common.{ap}
use Rattle.streetmap_connections.specs.declared.client.Client.{Client}
use Rattle.streetmap_connections.specs.Connections.{history}
use Rattle.streetmap_connections.specs.Clients.{place_of}
use Rattle.streetmap_connections.proofs.MoveLemmas.{moves_to, moves_by_refusal}
use Rattle.streetmap_connections.proofs.client.Client.refuse.Goals as goal

pub returns-clause-moves : goal.returns-clause-moves
returns-clause-moves g c =
    let old = place_of g.S.Stream.remaining g.S.Stream.contents c.args.self.now in
    moves_to 0 old _ _ (moves_by_refusal 0 old.history (history c.refuse.new.self) c.refuse.ensures.refused.0 old.left old.held old.finishes c.refuse.ensures.refused.2)
    (ap (λ (x : Client g.row.S.Denot). place_of g.S.Stream.remaining g.S.Stream.contents x) c.restart.ensures)
