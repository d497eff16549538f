use Rattle.std.proofs.Common.{◌≡◌, Some, Ok, drop}
use Rattle.std.specs.FinMap.{get, values}
use Rattle.streetmap_query.specs.Views.{query_value}
use Rattle.streetmap_ledger.specs.State.{Collection}
use Rattle.streetmap_ledger.specs.Keep.{IsRead}
use Rattle.streetmap_outlines.specs.Outlines.{AreListedChunksOf, joined}
use Rattle.streetmap_outlines.proofs.Pairing.{Going}
use Rattle.streetmap_index.proofs.page.page_by_outlines.Given as goal

-- the fold holds the page of the features met so far
abbrev pub invariant-loop-chunk : goal.invariant-loop-chunk
invariant-loop-chunk g l = IsRead {T = Unit {0}} g.K.Keeper.model l.fn.keeper l.keeper (Ok tt) (λ s _.
    (c : Collection) → get s.collections l.collection ≡ Some c → AreListedChunksOf l.outlines c.features →
    Going (query_value l.query) l.fold c.features (values c.features) (joined (drop l.chunk-index l.chunks)))
