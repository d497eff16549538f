use Rattle.std.proofs.Common.{rules, ◌≡◌, pos, Ok, Err, sym, subst}
use Rattle.sqlite.specs.Held.{state}
use Rattle.sqlite_value.specs.Value.{owned}
use Rattle.sqlite.specs.State.{ExecutesInside}
use Rattle.sqlite.specs.declared.types.Value.TheVariants.{Int}
use Rattle.streetmap_rows.specs.Representations.{StandsFor}
use Rattle.streetmap_rows.specs.Elsewhere.{IsSameElsewhere}
use Rattle.streetmap_rows.specs.Statements.{insert_batch}
use Rattle.streetmap_rows.proofs.ResultCases.{handed_on}
use Rattle.streetmap_rows.proofs.StateWrites.{keep_represented, keep_reported}
use Rattle.streetmap_rows.proofs.BoundParameters.{seven}
use Rattle.streetmap_rows.proofs.StatementsInside.{ran_inside, failed_inside}
use Rattle.streetmap_rows.proofs.writes.insert_batch.Goals as goal

pub returns : goal.returns
returns g c =
    let run = c.in_ok-execute.ensures in
    ran_inside _ _ run.same_reference run.survives _ run.runs (λ clean inside limit s t represented leads.
    let old = state g.S.Store c.args.tx.now.conn.now in
    let new = state g.S.Store c.execute.new.self.conn.now in
    let e3 : owned c.params-to_sql-3.result ≡ Int (pos c.args.counts.opened) = search rules in
    let e4 : owned c.params-to_sql-4.result ≡ Int (pos c.args.counts.inserted) = search rules in
    let e5 : owned c.params-to_sql-5.result ≡ Int (pos c.args.counts.replaced) = search rules in
    let e6 : owned c.params-to_sql-6.result ≡ Int (pos c.args.counts.deleted) = search rules in
    let e7 : owned c.params-to_sql-7.result ≡ Int (pos c.args.serial) = search rules in
    let ran = subst (λ row. ExecutesInside 0 insert_batch row old new (Ok c.in_ok-execute.field-0))
    (seven c.params-to_sql.ensures c.params-to_sql-2.ensures e3 e4 e5 e6 e7) (c.in_ok-execute.ensures.runs clean inside) in
    subst (λ x. StandsFor x new.now × IsSameElsewhere old.now new.now) (sym leads.is) (keep_represented old new s represented limit c.args.key.now
    (record { text = c.args.text.now; counts = c.args.counts; serial = c.args.serial }) leads.absent leads.next leads.counted _ ran.0))

pub returns-in_err-execute : goal.returns-in_err-execute
returns-in_err-execute g c =
    let run = c.in_err-execute.ensures in
    failed_inside _ _ run.same_reference run.survives run.ended run.runs c.from_residual.ensures.1 (λ clean inside limit s t represented leads.
    let old = state g.S.Store c.args.tx.now.conn.now in
    let new = state g.S.Store c.execute.new.self.conn.now in
    let e3 : owned c.params-to_sql-3.result ≡ Int (pos c.args.counts.opened) = search rules in
    let e4 : owned c.params-to_sql-4.result ≡ Int (pos c.args.counts.inserted) = search rules in
    let e5 : owned c.params-to_sql-5.result ≡ Int (pos c.args.counts.replaced) = search rules in
    let e6 : owned c.params-to_sql-6.result ≡ Int (pos c.args.counts.deleted) = search rules in
    let e7 : owned c.params-to_sql-7.result ≡ Int (pos c.args.serial) = search rules in
    let ran = subst (λ row. ExecutesInside 0 insert_batch row old new (Err c.in_err-execute.field-0.0))
    (seven c.params-to_sql.ensures c.params-to_sql-2.ensures e3 e4 e5 e6 e7) (c.in_err-execute.ensures.runs clean inside) in
    handed_on c.from_residual.result c.in_err-execute.field-0.0 _ _ c.from_residual.ensures.1
    (keep_reported old new s represented limit c.args.key.now (record { text = c.args.text.now; counts = c.args.counts; serial = c.args.serial })
    leads.absent leads.next leads.counted _ ran))
