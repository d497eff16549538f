use Rattle.streetmap_ledger.specs.State.{State}
use Rattle.streetmap_ledger.specs.WellFormed.{IsState}
use Rattle.streetmap_index.specs.Index.{AreKnown, KnowsAll}
use Rattle.streetmap_index.proofs.Listing.{IsReporting}
use Rattle.streetmap_index.proofs.summaries.summaries.Given as goal

abbrev pub invariant-loop-id : goal.invariant-loop-id
invariant-loop-id l = (s : State) → IsState s → AreKnown l.known.entries s → KnowsAll l.known.entries s → IsReporting s l.made.items l.id-iterator
