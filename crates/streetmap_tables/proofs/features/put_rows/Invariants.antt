use Rattle.std.proofs.Common.{◌≡◌, None, IsTrue, drop}
use Rattle.sqlite.specs.Held.{state}
use Rattle.sqlite.specs.State.{HasCleanDisk, KeepsCommit, Survives}
use Rattle.streetmap_ledger.specs.State.{State}
use Rattle.streetmap_ledger.specs.WellFormed.{IsState}
use Rattle.streetmap_rows.specs.Representations.{StandsFor}
use Rattle.streetmap_rows.specs.Elsewhere.{IsSameElsewhere}
use Rattle.streetmap_tables.specs.Part.{Lacks}
use Rattle.streetmap_tables.proofs.PartOfState.{Continues}
use Rattle.streetmap_tables.proofs.features.put_rows.Given as goal

abbrev pub invariant-rows : goal.invariant-rows
invariant-rows g l =
    let old = state g.S.Store l.fn.tx.conn.now in
    let now = state g.S.Store l.tx.conn.now in
    (l.tx.conn.ghost_name ≡ l.fn.tx.conn.ghost_name) × Survives old now (λ _. ⊥) × (HasCleanDisk now → IsTrue old.in_transaction → IsTrue now.in_transaction
    × KeepsCommit old now)
    × (HasCleanDisk now → old.step_limit ≡ None → IsTrue old.in_transaction → (s t : State) → IsState s → StandsFor t old.now → Lacks l.rows s t → (u : State)
    × StandsFor u now.now × Lacks (drop l.row-index l.rows) s u × IsSameElsewhere old.now now.now)
    × (HasCleanDisk now → IsTrue old.in_transaction → Continues g.S.Store l.rows (drop l.row-index l.rows) l.fn.tx.conn.now l.tx.conn.now)
