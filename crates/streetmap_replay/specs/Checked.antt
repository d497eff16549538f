-- The result of a replay of a keeper's batches.
use Rattle.std.specs.Prelude.{Result, Ok, Err, map, string_bytes}
use Rattle.streetmap_ledger.specs.State.{State, opening_state}
use Rattle.streetmap_replay.specs.FollowedLines.{follow}
use Rattle.streetmap_replay.specs.Journal.{journal}
use Rattle.streetmap_replay.specs.Lines.{bare}
use Rattle.streetmap_replay.specs.Replay.{Replays}
use Rattle.streetmap_replay.specs.Alike.{Differs}
use Rattle.streetmap_replay.specs.Given.{GivesAll, BreaksAt}
use Rattle.streetmap_replay.specs.Stops.{IsForeseen}
use Rattle.streetmap_replay.specs.declared.fault.ReplayFault.{ReplayFault}
use Rattle.streetmap_replay.specs.declared.fault.ReplayFault.TheVariants.{Kept, Fresh, Memory}
use Rattle.streetmap_replay.specs.declared.fault.ReplayFault.TheVariants.{Batch, Collection}

-- the state that the kept texts of a state give, as far as they are followed
abbrev pub replayed : State → State
replayed s = (follow opening_state (map bare (journal s))).state

-- all batches were reproduced from their texts, and the second keeper represents the state that
-- they give; or which is the first that was not
abbrev pub GivesBatches : {T : Type 0} → State → Result T ReplayFault → (State → Type 0) → Type 0
GivesBatches s (Ok done) fresh = (t : State) × GivesAll s t × fresh t
GivesBatches s (Err (Kept fault)) fresh = Unit {0}
GivesBatches s (Err (Fresh fault)) fresh = IsForeseen fault
GivesBatches s (Err Memory) fresh = Unit {0}
GivesBatches s (Err (Batch serial)) fresh = (Replays s → ⊥) × BreaksAt s serial
GivesBatches s (Err (Collection name)) fresh = ⊥

-- it succeeded: the state is the one that its texts give, and the second keeper represents it too.
-- Or it is not, and which is the first batch that its text does not reproduce, or, if all are
-- reproduced, the first collection that differs
abbrev pub Checks : {T : Type 0} → State → Result T ReplayFault → (State → Type 0) → Type 0
Checks s (Ok done) fresh = Replays s × fresh s
Checks s (Err (Kept fault)) fresh = Unit {0}
Checks s (Err (Fresh fault)) fresh = IsForeseen fault
Checks s (Err Memory) fresh = Unit {0}
Checks s (Err (Batch serial)) fresh = (Replays s → ⊥) × BreaksAt s serial
Checks s (Err (Collection name)) fresh =
    (Replays s → ⊥) × GivesAll s (replayed s) × Differs s (replayed s) (string_bytes name)
