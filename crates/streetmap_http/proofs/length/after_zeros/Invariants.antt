use Rattle.std.proofs.Common.{◌≡◌, length}
use Rattle.streetmap_http.specs.Lengths.{after_zeros}
use Rattle.streetmap_http.proofs.length.after_zeros.Given as goal

abbrev pub invariant-loop-first : goal.invariant-loop-first
invariant-loop-first l = after_zeros l.rest ≡ after_zeros l.fn.value

abbrev pub decreases-loop-first : goal.decreases-loop-first
decreases-loop-first l = length l.rest
