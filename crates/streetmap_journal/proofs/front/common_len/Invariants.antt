use Rattle.std.proofs.Common.{◌≡◌, take}
use Rattle.streetmap_journal.proofs.front.common_len.Given as goal

abbrev pub invariant-loop-at : goal.invariant-loop-at
invariant-loop-at l = take l.at l.shown ≡ take l.at l.expected
