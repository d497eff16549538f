use Rattle.std.proofs.Common.{◌≡◌, ℕ, Ok, drop}
use Rattle.streetmap_batch.specs.BatchView.{edit_values}
use Rattle.streetmap_ledger.specs.State.{State}
use Rattle.streetmap_ledger.specs.Batches.{edited}
use Rattle.streetmap_index.specs.Index.{IsIndexOf}
use Rattle.streetmap_index.proofs.index.Index.follow.Given as goal

-- the index is one of the state that the edits so far left, and the others lead from there to the end
abbrev pub invariant-loop-edit : goal.invariant-loop-edit
invariant-loop-edit l =
    (s t : State) (place : ℕ) → edited place s (edit_values l.edits) ≡ Ok t → IsIndexOf l.fn.self s
    → (u : State) × (at : ℕ) × (edited at u (edit_values (drop l.edit-index l.edits)) ≡ Ok t) × IsIndexOf l.self u
