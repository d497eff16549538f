use Rattle.std.proofs.Common.{◌≡◌, ◌-◌, ◌<◌, ◌≤◌, ◌^◌, length}
use Rattle.streetmap_query.specs.Number.{digits_at, whole_at}
use Rattle.streetmap_query.proofs.numbers.whole.Given as goal

abbrev pub invariant-loop-next : goal.invariant-loop-next
invariant-loop-next l = record {
  value : digits_at (19 - l.places) l.number l.rest ≡ whole_at l.fn.text;
  bound : l.number < 10 ^ l.places;
  from : 1 ≤ l.places;
  to : l.places ≤ 19;
}

abbrev pub decreases-loop-next : goal.decreases-loop-next
decreases-loop-next l = length l.rest
