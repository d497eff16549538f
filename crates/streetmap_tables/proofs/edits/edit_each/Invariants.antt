use Rattle.std.proofs.Common.{◌≡◌, ◌+◌, None, IsTrue, length, map}
use Rattle.sqlite.specs.Held.{state}
use Rattle.sqlite.specs.State.{HasCleanDisk, Survives}
use Rattle.streetmap_batch.specs.BatchView.{edit_value}
use Rattle.streetmap_ledger.specs.State.{State}
use Rattle.streetmap_ledger.specs.Batches.{edited}
use Rattle.streetmap_rows.specs.Representations.{StandsFor}
use Rattle.streetmap_tables.specs.EditEffects.{KeepsRest}
use Rattle.streetmap_tables.specs.Insertions.{IsKnown}
use Rattle.streetmap_tables.proofs.edits.edit_each.Given as goal

abbrev pub invariant-runs : goal.invariant-runs
invariant-runs g l =
    let old = state g.S.Store l.fn.tx.conn.now in
    let now = state g.S.Store l.tx.conn.now in
    (l.tx.conn.ghost_name ≡ l.fn.tx.conn.ghost_name) × Survives old now (λ _. ⊥) × (l.done + length l.rest ≡ length l.edits)
    × (HasCleanDisk now → old.step_limit ≡ None → IsTrue old.in_transaction → (s : State) → StandsFor s old.now
    → (t : State) × (edited 1 s (map edit_value l.edits) ≡ edited (l.done + 1) t (map edit_value l.rest)) × StandsFor t now.now × IsTrue now.in_transaction
    × KeepsRest old now × IsKnown l.known t)

abbrev pub decreases-runs : goal.decreases-runs
decreases-runs g l = length l.rest
