use Rattle.std.proofs.Common.{Ok}
use Rattle.streetmap_ledger.specs.Keep.{IsRead}
use Rattle.streetmap_ledger.specs.KeptView.{keyed_batches}
use Rattle.streetmap_tags.proofs.NextChange.{SoFar}
use Rattle.streetmap_tags.proofs.batches.changes.Given as goal

-- the batches up to this serial were read
abbrev pub invariant-loop-before : goal.invariant-loop-before
invariant-loop-before g l = record {
  read : IsRead g.K.Keeper.model l.fn.keeper l.keeper (Ok l.found)
      (λ s found. SoFar s l.after l.limit l.count l.before l.room (keyed_batches found.items));
}
