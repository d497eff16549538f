use Rattle.std.specs.Prelude.{Ok}
use Rattle.streetmap_ledger.specs.Keep.{IsRead}
use Rattle.streetmap_guarantee.proofs.warm_up.warm.Given as goal

-- the keeper was only read
abbrev pub invariant-loop-summary : goal.invariant-loop-summary
invariant-loop-summary g l = IsRead {T = Unit {0}} g.K.Keeper.model l.fn.keeper l.keeper (Ok tt) (λ s _. Unit {0})
