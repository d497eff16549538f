-- What the texts of kept batches reproduce.
use Rattle.std.specs.Prelude.{◌≡◌, ◌≤◌, ◌+◌, ℕ, Bool, true, false, Option, None, Some}
use Rattle.std.specs.Prelude.{Result, Ok, Err, map, take, if◌then◌else◌}
use Rattle.std.specs.FinMap.{get}
use Rattle.streetmap_batch.specs.ParsedBatches.{batch_of}
use Rattle.streetmap_batch.specs.BatchValue.{BatchValue}
use Rattle.streetmap_batch.specs.Text.{Text}
use Rattle.streetmap_batch.specs.declared.batch_fault.BatchFault.{BatchFault}
use Rattle.streetmap_ledger.specs.Kept.{KeyedBatch, batch_count, batch_in}
use Rattle.streetmap_ledger.specs.Batches.{act, kept_for}
use Rattle.streetmap_ledger.specs.Laws.{is_accepted}
use Rattle.streetmap_ledger.specs.State.{State, AcceptedBatch, opening_state}
use Rattle.streetmap_replay.specs.FollowedLines.{follow, Arrives}
use Rattle.streetmap_replay.specs.Journal.{journal}
use Rattle.streetmap_replay.specs.Lines.{bare}
use Rattle.streetmap_replay.specs.Stops.{IsForeseen}
use Rattle.streetmap_replay.specs.declared.fault.ReplayFault.{ReplayFault}
use Rattle.streetmap_replay.specs.declared.fault.ReplayFault.TheVariants.{Kept, Fresh, Memory}
use Rattle.streetmap_replay.specs.declared.fault.ReplayFault.TheVariants.{Batch, Collection}

-- the batch that a text is, if it is one
abbrev pub found_of : Result BatchValue BatchFault → Option BatchValue
found_of (Ok b) = Some b
found_of (Err fault) = None

abbrev pub read_of : Text → Option BatchValue
read_of text = found_of (batch_of text)

-- what is kept of a batch, if this state accepts it
abbrev pub given_by : State → Option BatchValue → Option KeyedBatch
given_by t (Some b) =
    if is_accepted (act t b).reply then Some (b.key, kept_for b (batch_count t + 1)) else None
given_by t None = None

-- the state after it
abbrev pub state_by : State → Option BatchValue → State
state_by t (Some b) = (act t b).state
state_by t None = t

-- the batch that the text of a kept one gives in this state
abbrev pub given_again : State → KeyedBatch → Option KeyedBatch
given_again t batch = given_by t (read_of batch.1.text)

-- the first n texts of a state's journal are followed from the opening state on, to this one, which
-- keeps n batches: those of the state with the serials up to n
pub record GivesFirst (s : State) (n : ℕ) (t : State) : Type 0 where
  pub within : n ≤ batch_count s
  pub followed : Arrives (follow opening_state (map bare (take n (journal s)))) t
  pub kept : (key : Text) (k : AcceptedBatch) → get s.keys key ≡ Some k → k.serial ≤ n →
      get t.keys key ≡ Some k
  pub count : batch_count t ≡ n

-- all texts of the journal are followed to this state, which keeps the batches of the state
pub record GivesAll (s t : State) : Type 0 where
  pub followed : Arrives (follow opening_state (map bare (journal s))) t
  pub keys : t.keys ≡ s.keys

-- the batches before this serial are reproduced by their texts, and the one with it is not
pub record BreaksAt (s : State) (serial : ℕ) : Type 0 where
  pub before : ℕ
  pub next : serial ≡ before + 1
  pub state : State
  pub first : GivesFirst s before state
  pub batch : KeyedBatch
  pub there : batch_in s serial ≡ Some batch
  pub other : given_again state batch ≡ Some batch → ⊥

-- whether the text of a kept batch reproduced it in a keeper that represented this state
abbrev pub GivesRow : State → KeyedBatch → Result Bool ReplayFault → (State → Type 0) → Type 0
GivesRow t batch (Ok true) represents =
    (given_again t batch ≡ Some batch) × represents (state_by t (read_of batch.1.text))
GivesRow t batch (Ok false) represents = given_again t batch ≡ Some batch → ⊥
GivesRow t batch (Err (Kept fault)) represents = ⊥
GivesRow t batch (Err (Fresh fault)) represents = IsForeseen fault
GivesRow t batch (Err Memory) represents = Unit {0}
GivesRow t batch (Err (Batch serial)) represents = ⊥
GivesRow t batch (Err (Collection name)) represents = ⊥

-- whether the texts up to the n-th reproduced their batches in a keeper that represented the state
-- after some of them
abbrev pub GivesPart : {T : Type 0} → State → ℕ → Result T ReplayFault → (State → Type 0) → Type 0
GivesPart s n (Ok done) represents = (t : State) × GivesFirst s n t × represents t
GivesPart s n (Err (Kept fault)) represents = ⊥
GivesPart s n (Err (Fresh fault)) represents = IsForeseen fault
GivesPart s n (Err Memory) represents = Unit {0}
GivesPart s n (Err (Batch serial)) represents = BreaksAt s serial
GivesPart s n (Err (Collection name)) represents = ⊥
