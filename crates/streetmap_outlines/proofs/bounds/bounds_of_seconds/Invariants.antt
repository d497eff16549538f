use Rattle.std.proofs.Common.{take}
use Rattle.streetmap_outlines.specs.Outlines.{AllTimedBy}
use Rattle.streetmap_outlines.proofs.bounds.bounds_of_seconds.Given as goal

-- the seconds of the outlines so far lie within the bounds
abbrev pub invariant-loop-outline : goal.invariant-loop-outline
invariant-loop-outline l = AllTimedBy (take l.outline-index l.outlines) l.bounds
