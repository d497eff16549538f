use Rattle.std.proofs.Common.{◌≡◌, length}
use Rattle.streetmap_query.specs.Number.{zeros_from}
use Rattle.streetmap_query.proofs.numbers.after_zeros.Given as goal

abbrev pub invariant-loop-first : goal.invariant-loop-first
invariant-loop-first l = zeros_from l.rest ≡ zeros_from l.fn.text

abbrev pub decreases-loop-first : goal.decreases-loop-first
decreases-loop-first l = length l.rest
