use Rattle.std.proofs.Common.{◌∙◌}
use Rattle.sqlite.specs.Held.{state}
use Rattle.streetmap_rows.proofs.ResultCases.{handed_on}
use Rattle.streetmap_tables.proofs.CallsInTransaction.{keeps_rest, still_represented}
use Rattle.streetmap_rows.proofs.CallsInside.{runs_ok, runs_err}
use Rattle.streetmap_tables.proofs.insertions.come_to_know.Goals as goal

pub returns-in_err-known : goal.returns-in_err-known
returns-in_err-known g c =
    runs_err c.in_err-known.ensures c.from_residual.ensures.1 (λ clean limit inside s represented was.
    handed_on _ _ _ _ c.from_residual.ensures.1 (c.in_err-known.ensures.does clean limit s represented))

pub returns : goal.returns
returns g c =
    runs_ok c.in_ok-known.ensures (λ clean limit inside s represented was.
    let a = state g.S.Store c.args.tx.now.conn.now in
    let b = state g.S.Store c.find_collection.new.tx.conn.now in
    let found = c.in_ok-known.ensures.does clean limit s represented in
    (found.0, found.1, still_represented a b s found.2 represented, found.2.0.mode ∙ inside, keeps_rest a b found.2))
