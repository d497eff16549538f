use Rattle.std.proofs.Common.{inl, inr}
use Rattle.sqlite.specs.Held.{state}
use Rattle.streetmap_rows.proofs.ResultCases.{by_result}
use Rattle.streetmap_rows.proofs.KeyReads.{kept_shown, kept_reported, kept_commits_nothing}
use Rattle.streetmap_rows.proofs.lookups.kept_rows.Goals as goal

pub returns-clause-reads_state : goal.returns-clause-reads_state
returns-clause-reads_state g c clean limit s represented =
    let old = state g.S.Store c.args.conn.now in
    let new = state g.S.Store c.query_all.new.self in
    let ok = rw c.params-to_sql.ensures at (c.query_all.ensures.ok clean) in
    let err = rw c.params-to_sql.ensures at (c.query_all.ensures.err clean) in
    by_result c.query_all.result _ _ _ _ ok err (λ rows ran. kept_shown old new s represented c.args.key.now rows.items ran)
    (λ e ran. kept_reported old new s represented limit c.args.key.now e ran)

pub returns-clause-crash : goal.returns-clause-crash
returns-clause-crash g c clean s represented trees left = elim (c.query_all.ensures.survives.crash clean trees left) [
  | inl was ↦ was
  | inr shows ↦ absurd (kept_commits_nothing (state g.S.Store c.args.conn.now) (state g.S.Store c.query_all.new.self) s represented
      c.args.key.now trees (rw c.params-to_sql.ensures at shows))
]
