use Rattle.std.proofs.Common.{refl, ap, inl, ◌++◌, Option}
use Rattle.streetmap_connections.specs.declared.client.Client.{Client}
use Rattle.streetmap_connections.specs.declared.limits.TheConstants.{MOST_INPUT}
use Rattle.streetmap_connections.specs.Slots.{past_of, present}
use Rattle.streetmap_connections.proofs.MoveLemmas.{moves_within}
use Rattle.streetmap_connections.proofs.slot.Slot.take_turn.Goals as goal

pub returns-else-is_late-clause-turn : goal.returns-else-is_late-clause-turn
returns-else-is_late-clause-turn g c = inl (record {
  others = past_of c.args.self.now;
  client = c.in-Some.client;
  served = c.work.new.self;
  was = ap (λ (o : Option (Client g.row.S.Denot)). past_of c.args.self.now ++ present o) c.in-Some.is;
  is = refl;
  moves = moves_within c.args.most_input MOST_INPUT _ _ c.requires c.work.ensures.moves;
  calls = c.work.ensures.calls;
  refused = c.work.ensures.refuses;
})
