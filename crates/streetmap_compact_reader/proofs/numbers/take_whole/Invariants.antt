use Rattle.std.proofs.Common.{◌≡◌, ◌++◌, ◌<◌, ◌^◌, decimal, length}
use denote.Text.{Utf8}
use denote.Shadow.{shadow}
use Rattle.streetmap_compact_reader.proofs.numbers.take_whole.Given as goal

-- the digits so far are those of the number
abbrev pub invariant-loop-digit : goal.invariant-loop-digit
invariant-loop-digit l = record {
  utf8 : shadow (Utf8 l.after);
  text : l.fn.rest ≡ decimal l.number ++ l.after;
  bound : l.number < 10 ^ 15;
}

abbrev pub decreases-loop-digit : goal.decreases-loop-digit
decreases-loop-digit l = length l.after
