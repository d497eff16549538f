use Rattle.std.proofs.Common.{arith, rules}
use Rattle.std.proofs.lemmas.Grind.{common_steps}
use Rattle.sqlite.specs.Held.{state}
use Rattle.streetmap_tables.proofs.Creating.{created_by}
use Rattle.streetmap_tables.proofs.CreateRefused.{reported_created}
use Rattle.streetmap_tables.proofs.Refusals.{allowed_if_ours}
use Rattle.streetmap_tables.proofs.BeforeCleanEnd.{is_handed}
use Rattle.streetmap_rows.proofs.StatementsInside.{ran_inside, failed_inside}
use Rattle.streetmap_tables.proofs.creation.create_table.Goals as goal

pub returns-clause-runs : goal.returns-clause-runs
returns-clause-runs g c =
    let run = c.in_ok-execute.ensures in
    ran_inside _ _ run.same_reference run.survives _ run.runs (λ clean. record {
      makes = λ inside table text counts. created_by c.args.sql.now table text (state g.S.Store c.args.tx.now.conn.now)
          (state g.S.Store c.execute.new.self.conn.now) counts _ (c.in_ok-execute.ensures.runs clean inside).0;
      reported = first_of (search rules, grind (arith, common_steps));
    })

pub returns-in_err-execute-clause-runs : goal.returns-in_err-execute-clause-runs
returns-in_err-execute-clause-runs g c =
    let run = c.in_err-execute.ensures in
    failed_inside _ _ run.same_reference run.survives run.ended run.runs c.from_residual.ensures.1 (λ clean. record {
      makes = first_of (search rules, grind (arith, common_steps));
      reported = λ inside table ours free counts.
          let e = c.in_err-execute.field-0.0 in
          let handed = is_handed c.from_residual.result e c.from_residual.ensures.1 in
          rw handed (reported_created c.args.sql.now table (allowed_if_ours c.args.sql.now table ours) (state g.S.Store c.args.tx.now.conn.now)
          (state g.S.Store c.execute.new.self.conn.now) free counts e (c.in_err-execute.ensures.runs clean inside));
    })

pub returns-clause-ran : goal.returns-clause-ran
returns-clause-ran g c clean inside = (_, c.in_ok-execute.ensures.runs clean inside)
