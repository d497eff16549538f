-- A state that its own journal reproduces.
use Rattle.std.specs.Prelude.{◌≡◌, List, All, map}
use Rattle.streetmap_batch.specs.BatchValue.{BatchValue}
use Rattle.streetmap_ledger.specs.State.{State, opening_state}
use Rattle.streetmap_ledger.specs.Batches.{act, after_all}
use Rattle.streetmap_ledger.specs.WellFormed.{IsState}
use Rattle.streetmap_batch.specs.BatchFacts.{IsSoundBatch}
use Rattle.streetmap_replay.specs.Journal.{journal}
use Rattle.streetmap_replay.specs.Lines.{bare}
use Rattle.streetmap_replay.specs.FollowedLines.{Arrives, follow}

-- all texts of its journal are followed from the opening state on, and they give it: its
-- collections, and its keys with their texts, counts and serials
abbrev pub Replays : State → Type 0
Replays s = Arrives (follow opening_state (map bare (journal s))) s

-- the opening state is such a state, and each batch keeps a state so; and such a state comes from
-- batches
abbrev pub StatesReplay : Type 0
StatesReplay =
    Replays opening_state
    × ((s : State) (b : BatchValue) → IsState s → IsSoundBatch b → Replays s →
    Replays (act s b).state)
    × ((bs : List BatchValue) → All IsSoundBatch bs → Replays (after_all opening_state bs))
    × ((s : State) → Replays s → (bs : List BatchValue) × (after_all opening_state bs ≡ s))
