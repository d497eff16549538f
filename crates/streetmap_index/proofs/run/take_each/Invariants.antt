use Rattle.std.proofs.Common.{true, take, Ok}
use Rattle.streetmap_ledger.specs.Keep.{IsRead}
use Rattle.streetmap_index.specs.OutlinePages.{TakesRun}
use Rattle.streetmap_index.proofs.run.take_each.Given as goal

-- the features with the outlines so far were taken
abbrev pub invariant-loop-outline : goal.invariant-loop-outline
invariant-loop-outline g l = IsRead {T = Unit {0}} g.K.Keeper.model l.fn.keeper l.keeper (Ok tt)
    (λ s _. TakesRun l.collection (take l.outline-index l.outlines) l.fn.fold l.fold s true)
