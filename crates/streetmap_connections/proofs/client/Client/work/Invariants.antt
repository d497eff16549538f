use Rattle.streetmap_connections.specs.Leads.{Calls}
use Rattle.streetmap_connections.specs.Moves.{Moves}
use Rattle.streetmap_connections.specs.Clients.{place_of, exchanges_of, refusals_of}
use Rattle.streetmap_connections.specs.RefusedRequests.{AddsRefusals}
use Rattle.streetmap_connections.specs.Timers.{IsTimedFrom, times_of}
use Rattle.streetmap_connections.proofs.client.Client.work.Given as goal

abbrev pub invariant-loop-step : goal.invariant-loop-step
invariant-loop-step g l = record {
  moves : Moves l.fn.most_input (place_of g.S.Stream.remaining g.S.Stream.contents l.fn.self) (place_of g.S.Stream.remaining g.S.Stream.contents l.self);
  calls : Calls g.V.Service.answers l.fn.service l.service (exchanges_of l.fn.self) (exchanges_of l.self);
  refuses : AddsRefusals g.V.Service.refuses (refusals_of l.fn.self) (refusals_of l.self);
  timed : IsTimedFrom l.fn.now (times_of l.fn.self) (times_of l.self);
}
