use Rattle.std.proofs.Common.{◌≡◌, ◌+◌, IsTrue, map, drop}
use Rattle.sqlite.specs.Held.{state}
use Rattle.sqlite.specs.State.{HasCleanDisk, Survives}
use Rattle.streetmap_batch.specs.BatchView.{edit_value}
use Rattle.streetmap_ledger.specs.State.{State}
use Rattle.streetmap_ledger.specs.Batches.{edited}
use Rattle.streetmap_rows.specs.Representations.{StandsFor}
use Rattle.streetmap_tables.specs.EditEffects.{KeepsRest}
use Rattle.std.proofs.Common.{None}
use Rattle.streetmap_tables.proofs.edits.edit_in_turn.Given as goal

abbrev pub invariant-edits : goal.invariant-edits
invariant-edits g l =
    let old = state g.S.Store l.fn.tx.conn.now in
    let now = state g.S.Store l.tx.conn.now in
    (l.tx.conn.ghost_name ≡ l.fn.tx.conn.ghost_name) × Survives old now (λ _. ⊥) × (l.place ≡ l.edit-index + 1)
    × (HasCleanDisk now → old.step_limit ≡ None → IsTrue old.in_transaction → (s : State) → StandsFor s old.now
    → (t : State) × (edited 1 s (map edit_value l.edits) ≡ edited l.place t (map edit_value (drop l.edit-index l.edits))) × StandsFor t now.now
    × IsTrue now.in_transaction × KeepsRest old now)
