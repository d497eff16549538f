use Rattle.std.proofs.Common.{◌≡◌, ◌+◌, ◌*◌, ◌≤◌, length, max}
use Rattle.streetmap_moment.specs.DateTimeParts.{digits_at}
use Rattle.streetmap_moment.proofs.DigitFacts.{with_front}
use Rattle.streetmap_moment.proofs.fields.nanoseconds.Given as goal

abbrev pub invariant-loop-number : goal.invariant-loop-number
invariant-loop-number l = record {
  value : with_front l.total (digits_at l.unit l.rest) ≡ digits_at 10_000_000 l.fn.text;
  bound : l.total + max (10 * l.unit) 1 ≤ 100_000_000;
}

abbrev pub decreases-loop-number : goal.decreases-loop-number
decreases-loop-number l = length l.rest
