use Rattle.std.proofs.Common.{◌≡◌, ◌≤◌, ◌-◌, ◌++◌, List, Some, Ok, drop, length}
use Rattle.std.specs.FinMap.{get}
use Rattle.streetmap_geojson.specs.FeatureValue.{FeatureValue}
use Rattle.streetmap_query.specs.Views.{query_value}
use Rattle.streetmap_ledger.specs.State.{Collection}
use Rattle.streetmap_ledger.specs.Keep.{IsRead}
use Rattle.streetmap_ledger.specs.Folds.{HoldsCandidates}
use Rattle.streetmap_outlines.specs.Outlines.{IsBounded}
use Rattle.streetmap_outlines.specs.Outlines.{Pairs}
use Rattle.streetmap_outlines.proofs.Pairing.{Going}
use Rattle.streetmap_index.proofs.page.take_outlined.Given as goal

-- the fold holds the features met so far after those that it held
abbrev pub invariant-loop-place : goal.invariant-loop-place
invariant-loop-place g l = record {
  within : l.place ≤ length l.outlines;
  was_read : IsRead {T = Unit {0}} g.K.Keeper.model l.fn.keeper l.keeper (Ok tt) (λ s _.
      (c : Collection) (met fs : List FeatureValue) → get s.collections l.collection ≡ Some c → IsBounded l.chunk → Pairs c.features l.outlines fs →
      HoldsCandidates (query_value l.query) l.fn.fold met → Going (query_value l.query) l.fold c.features (met ++ fs) (drop l.place l.outlines));
}

abbrev pub decreases-loop-place : goal.decreases-loop-place
decreases-loop-place g l = length l.outlines - l.place
