use Rattle.std.proofs.Common.{◌≤◌, length, take}
use Rattle.std.specs.Io.KnownBytes.{Consumes}
use Rattle.streetmap_journal.proofs.front.take_front.Given as goal

abbrev pub invariant-loop-turn : goal.invariant-loop-turn
invariant-loop-turn g l = record {
  within : l.count ≤ length l.expected;
  taken : Consumes (g.R.Read.remaining l.fn.reader) (g.R.Read.remaining l.reader)
      (take l.count l.expected);
}
