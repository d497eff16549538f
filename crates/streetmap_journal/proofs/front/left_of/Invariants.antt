use Rattle.streetmap_journal.proofs.FrontLemmas.{ZerosSoFar}
use Rattle.streetmap_journal.proofs.front.left_of.Given as goal

abbrev pub invariant-loop-turn : goal.invariant-loop-turn
invariant-loop-turn g l =
    ZerosSoFar (g.R.Read.remaining l.fn.reader) (g.R.Read.remaining l.reader) l.left
