-- The effect of edits of the plain keeper's collections on the state that they represent.
use Rattle.std.specs.Prelude.{◌≡◌, ℕ, List, Option, Some, None, Ok, Err}
use Rattle.std.specs.FinMap.{FinMap}
use Rattle.streetmap_batch.specs.Text.{text_cmp}
use Rattle.streetmap_batch.specs.BatchValue.{EditValue}
use Rattle.streetmap_ledger.specs.State.{State, AcceptedBatch, step}
use Rattle.streetmap_ledger.specs.Batches.{edited}
use Rattle.streetmap_memory.specs.Slots.{SlotCollections, collections_of}
use Rattle.streetmap_memory.specs.Undo.{undone}
use Rattle.streetmap_memory.specs.declared.acted.Acted.{Acted}
use Rattle.streetmap_memory.specs.declared.acted.Acted.TheVariants.{Done, Refused}
use Rattle.streetmap_ledger.specs.declared.reply.Refusal.{Refusal}

-- what is kept for each accepted key
abbrev pub Keys : Type 0
Keys = FinMap text_cmp AcceptedBatch

-- the state of these collections and keys
abbrev pub state_of : SlotCollections → Keys → State
state_of t keys = record { collections = collections_of t; keys = keys }

-- one edit is done, and can be taken back, or is refused
abbrev pub DoesOne : SlotCollections → EditValue → Acted → SlotCollections → Type 0
DoesOne old e (Done u) new = ((keys : Keys) → step (state_of old keys) e ≡ Ok (state_of new keys))
    × (undone u new ≡ old)
DoesOne old e (Refused why) new = ((keys : Keys) → step (state_of old keys) e ≡ Err why)
    × (new ≡ old)

-- all are done, or one is refused and nothing changes
abbrev pub DoesAll : SlotCollections → List EditValue → Option (ℕ × Refusal) → SlotCollections
    → Type 0
DoesAll old es None new = (keys : Keys) → edited 1 (state_of old keys) es ≡ Ok (state_of new keys)
DoesAll old es (Some stop) new = ((keys : Keys)
    → edited 1 (state_of old keys) es ≡ Err (stop.0, stop.1)) × (new ≡ old)
