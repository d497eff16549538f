use Rattle.std.proofs.Common.{rules, subst, arith, ◌∙◌, map}
use Rattle.std.proofs.lemmas.Grind.{common_steps}
use Rattle.sqlite.specs.Held.{state}
use Rattle.sqlite.specs.State.{HasCleanDisk}
use Rattle.streetmap_batch.specs.BatchView.{edit_value}
use Rattle.streetmap_rows.proofs.ResultCases.{handed_on}
use Rattle.streetmap_tables.specs.Insertions.{MadeOrLeft}
use Rattle.streetmap_tables.proofs.InsertedEdits.{answered_after}
use Rattle.streetmap_tables.proofs.KnownCollections.{on_any}
use Rattle.streetmap_rows.proofs.CallsInside.{runs_so, runs_ok, runs_err, runs_both}
use Rattle.streetmap_tables.proofs.edits.edit_run.Goals as goal

pub returns-in_err-insert_all-clause-runs : goal.returns-in_err-insert_all-clause-runs
returns-in_err-insert_all-clause-runs g c =
    runs_err c.in_err-insert_all.ensures c.from_residual.ensures.1 (λ clean. record {
      edits = λ limit inside s represented was. handed_on _ _ _ _ c.from_residual.ensures.1
          ((c.in_err-insert_all.ensures.does clean).edits limit inside s represented was);
      knows = first_of (search rules, grind (arith, common_steps));
    })

pub returns-then-branch-clause-runs : goal.returns-then-branch-clause-runs
returns-then-branch-clause-runs g c =
    runs_ok c.in_ok-insert_all.ensures (λ clean. record {
      edits = λ limit inside s represented was.
          let es = map edit_value c.args.edits.now in
          let it = (c.in_ok-insert_all.ensures.does clean).edits limit inside s represented was in
          let made = subst (MadeOrLeft s es (state g.S.Store c.insert_all.new.tx.conn.now)) c.if-branch.true it.0 in
          ((made.0, made.1, made.2, it.1), it.2);
      knows = first_of (search rules, grind (arith, common_steps));
    })

pub returns-clause-runs : goal.returns-clause-runs
returns-clause-runs g c =
    runs_so (runs_both c.in_ok-insert_all.ensures c.edit_in_turn.ensures.runs) (λ clean. record {
      edits = λ limit inside s represented was.
          let a = state g.S.Store c.args.tx.now.conn.now in
          let b = state g.S.Store c.insert_all.new.tx.conn.now in
          let e = state g.S.Store c.edit_in_turn.new.tx.conn.now in
          let es = map edit_value c.args.edits.now in
          let early : HasCleanDisk b = omega (arith, clean, c.edit_in_turn.ensures.runs.survives.clean) in
          let it = (c.in_ok-insert_all.ensures.does early).edits limit inside s represented was in
          let left = subst (MadeOrLeft s es b) c.if-branch.false it.0 in
          answered_after a b e s es c.edit_in_turn.result it.2 (c.edit_in_turn.ensures.runs.does clean (c.insert_all.ensures.survives.limit ∙ limit) it.1 s
          left);
      knows = λ limit inside s represented was.
          let early : HasCleanDisk (state g.S.Store c.insert_all.new.tx.conn.now) = omega (arith, clean, c.edit_in_turn.ensures.runs.survives.clean) in
          on_any c.edit_in_turn.result _ ((c.in_ok-insert_all.ensures.does early).knows limit inside s represented was);
    })
