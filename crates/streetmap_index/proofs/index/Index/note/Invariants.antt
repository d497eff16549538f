use Rattle.std.proofs.Common.{drop}
use Rattle.std.specs.List.{AllByRecursion}
use Rattle.streetmap_index.proofs.Listing.{IsNamed}
use Rattle.streetmap_index.proofs.index.Index.note.Given as goal

-- the collections so far are known
abbrev pub invariant-loop-summary : goal.invariant-loop-summary
invariant-loop-summary l = AllByRecursion (IsNamed l.self.known.entries) (drop l.summary-index l.summaries) →
    AllByRecursion (IsNamed l.self.known.entries) l.summaries
