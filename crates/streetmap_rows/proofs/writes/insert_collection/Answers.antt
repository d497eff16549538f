use Rattle.std.proofs.Common.{sym, subst}
use Rattle.sqlite.specs.Held.{state}
use Rattle.streetmap_rows.specs.Representations.{StandsFor}
use Rattle.streetmap_rows.specs.Elsewhere.{IsSameElsewhere}
use Rattle.streetmap_rows.proofs.ResultCases.{handed_on}
use Rattle.streetmap_rows.proofs.StateWrites.{open_represented, open_reported}
use Rattle.streetmap_rows.proofs.BoundParameters.{text_bound}
use Rattle.streetmap_rows.proofs.StatementsInside.{ran_inside, failed_inside}
use Rattle.streetmap_rows.proofs.writes.insert_collection.Goals as goal

pub returns : goal.returns
returns g c =
    let run = c.in_ok-execute.ensures in
    ran_inside _ _ run.same_reference run.survives _ run.runs (λ clean inside limit s t represented leads.
    let old = state g.S.Store c.args.tx.now.conn.now in
    let new = state g.S.Store c.execute.new.self.conn.now in
    let ran = rw (c.params-to_sql.ensures, c.params-to_sql-2.ensures, c.params-to_sql-3.ensures, text_bound c.args.time) at
    (c.in_ok-execute.ensures.runs clean inside) in
    subst (λ x. StandsFor x new.now × IsSameElsewhere old.now new.now) (sym leads.is) (open_represented old new s represented limit c.args.name.now
    c.args.title.now _ leads.absent leads.id leads.words leads.property _ ran.0))

pub returns-in_err-execute : goal.returns-in_err-execute
returns-in_err-execute g c =
    let run = c.in_err-execute.ensures in
    failed_inside _ _ run.same_reference run.survives run.ended run.runs c.from_residual.ensures.1 (λ clean inside limit s t represented leads.
    let old = state g.S.Store c.args.tx.now.conn.now in
    let new = state g.S.Store c.execute.new.self.conn.now in
    let ran = rw (c.params-to_sql.ensures, c.params-to_sql-2.ensures, c.params-to_sql-3.ensures, text_bound c.args.time) at
    (c.in_err-execute.ensures.runs clean inside) in
    handed_on c.from_residual.result c.in_err-execute.field-0.0 _ _ c.from_residual.ensures.1
    (open_reported old new s represented limit c.args.name.now c.args.title.now _ leads.absent _ ran))
