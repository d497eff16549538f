use Rattle.std.proofs.Common.{Ok, Err}
use Rattle.streetmap_rows.proofs.ResultCases.{handed_on}
use Rattle.streetmap_reading.specs.Statements.{select_run}
use Rattle.streetmap_reading.proofs.RunRows.{run_plain, runs_by}
use Rattle.streetmap_rows.proofs.ReadsInTurn.{reads_by}
use Rattle.streetmap_reading.proofs.run.run_under.Goals as goal

pub returns : goal.returns
returns g c =
    reads_by select_run _ c.in_ok-fold_rows.ensures (λ s keeps. run_plain _ s keeps) (λ clean took s d limit keeps there property.
    let all = rw (c.params-to_sql.ensures, c.params-to_sql-2.ensures, c.params-to_sql-3.ensures) at took in
    runs_by c.args.collection.now c.args.first.now c.args.last.now _ _ _ c.fold_rows.new.fold (Ok tt) all c.new-features.ensures.items s d limit keeps there
    property)

pub returns-in_err-fold_rows : goal.returns-in_err-fold_rows
returns-in_err-fold_rows g c =
    reads_by select_run _ c.in_err-fold_rows.ensures (λ s keeps. run_plain _ s keeps) (λ clean took s d limit keeps there property.
    let all = rw (c.params-to_sql.ensures, c.params-to_sql-2.ensures, c.params-to_sql-3.ensures) at took in
    handed_on _ _ _ _ c.from_residual.ensures.1
    (runs_by c.args.collection.now c.args.first.now c.args.last.now _ _ _ c.fold_rows.new.fold (Err c.in_err-fold_rows.field-0.0) all
    c.new-features.ensures.items s d limit keeps there property))
