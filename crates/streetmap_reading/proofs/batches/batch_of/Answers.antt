use Rattle.std.proofs.Common.{Some, sym, ap, subst, ◌∙◌}
use Rattle.sqlite.specs.Held.{state}
use Rattle.streetmap_ledger.specs.Kept.{batch_in}
use Rattle.streetmap_rows.specs.TableReads.{Stopped}
use Rattle.streetmap_rows.proofs.ReadsInTurn.{reads_on}
use Rattle.streetmap_rows.proofs.ResultCases.{handed_on}
use Rattle.streetmap_reading.specs.Serials.{column_serial}
use Rattle.streetmap_reading.proofs.SerialStatement.{column_is, passed, row_is, no_row, key_read}
use Rattle.streetmap_reading.proofs.batches.batch_of.Goals as goal

pub returns-in_err-row : goal.returns-in_err-row
returns-in_err-row g c =
    reads_on c.in_err-row.ensures (λ clean shows s limit keeps.
    handed_on _ _ _ _ c.from_residual.ensures.1 (shows (column_serial c.args.serial) (passed _ c.args.serial c.number_of.ensures) s limit keeps))

pub returns-in_default : goal.returns-in_default
returns-in_default g c =
    reads_on c.in_ok-row.ensures (λ clean shows s limit keeps.
    let n = c.args.serial in
    let found = shows (column_serial n) (passed _ n c.number_of.ensures) s limit keeps in
    let none = no_row (batch_in s (column_serial n)) (sym c.in_default.is ∙ found.0) in
    (sym (sym (column_is s n keeps.well) ∙ none), found.1))

pub returns-in_err-batch : goal.returns-in_err-batch
returns-in_err-batch g c =
    reads_on c.in_ok-row.ensures (λ clean shows s limit keeps.
    let n = c.args.serial in
    let found = shows (column_serial n) (passed _ n c.number_of.ensures) s limit keeps in
    let it = row_is (batch_in s (column_serial n)) c.in-Some.row (sym c.in-Some.is ∙ found.0) in
    let key = key_read s (column_serial n) it.0 keeps.well it.1 in
    let why = c.in_err-batch.ensures it.0.0 it.0.1 it.2 key in
    let old = state g.S.Store c.args.conn.now in
    handed_on _ _ _ _ c.from_residual-in_err-batch.ensures.1
    (subst (Stopped old (state g.S.Store c.batch_row.new.conn)) (sym why) found.1))

pub returns : goal.returns
returns g c =
    reads_on c.in_ok-row.ensures (λ clean shows s limit keeps.
    let n = c.args.serial in
    let found = shows (column_serial n) (passed _ n c.number_of.ensures) s limit keeps in
    let it = row_is (batch_in s (column_serial n)) c.in-Some.row (sym c.in-Some.is ∙ found.0) in
    let key = key_read s (column_serial n) it.0 keeps.well it.1 in
    let batch = c.in_ok-batch.ensures it.0.0 it.0.1 it.2 key in
    (ap Some batch ∙ (sym it.1 ∙ column_is s n keeps.well), found.1))
