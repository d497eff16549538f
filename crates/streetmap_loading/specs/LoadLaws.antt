-- Laws of loading.
use Rattle.std.specs.Prelude.{◌≡◌, List, ◌++◌}
use Rattle.streetmap_batch.specs.BatchValue.{BatchValue}
use Rattle.streetmap_ledger.specs.State.{State}
use Rattle.streetmap_ledger.specs.Batches.{after_all}
use Rattle.streetmap_loading.specs.KeeperLoads.{AreAcknowledged}

-- batches that were acknowledged in order are acknowledged again in the state after them, and do
-- not change it
abbrev pub LoadedAgain : Type 0
LoadedAgain =
    (s : State) (bs : List BatchValue) → AreAcknowledged s bs →
    AreAcknowledged (after_all s bs) bs × (after_all (after_all s bs) bs ≡ after_all s bs)

-- a load that ended after some batches and is done again gives the state of a load that did not end
-- early
abbrev pub GoesOnAgain : Type 0
GoesOnAgain =
    (s : State) (bs later : List BatchValue) → AreAcknowledged s bs →
    after_all (after_all s bs) (bs ++ later) ≡ after_all s (bs ++ later)
