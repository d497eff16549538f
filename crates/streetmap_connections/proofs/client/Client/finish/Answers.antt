use Rattle.std.proofs.Common.{refl, ap}
use Rattle.streetmap_connections.specs.declared.client.Client.{Client}
use Rattle.streetmap_connections.specs.Clients.{place_of}
use Rattle.streetmap_connections.proofs.MoveLemmas.{stays_put, moves_to, moves_by_finish}
use Rattle.streetmap_connections.proofs.client.Client.finish.Goals as goal

pub returns-then-has_ended-clause-moves : goal.returns-then-has_ended-clause-moves
returns-then-has_ended-clause-moves g c = stays_put 0 _

pub returns-clause-moves : goal.returns-clause-moves
returns-clause-moves g c =
    let old = place_of g.S.Stream.remaining g.S.Stream.contents c.args.self.now in
    moves_to 0 old _ _ (moves_by_finish 0 old.history old.left _ old.held _ old.finishes _ refl c.finish.ensures.kept)
    (ap (λ (x : Client g.row.S.Denot). place_of g.S.Stream.remaining g.S.Stream.contents x) c.restart.ensures)
