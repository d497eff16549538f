use Rattle.std.proofs.Common.{to_z-of_z}
use Rattle.sqlite.specs.Held.{state}
use Rattle.streetmap_reading.specs.Statements.{select_text_at}
use Rattle.streetmap_reading.proofs.FeatureStatement.{row_at, row_at_is, text_at_rowid, if_found}
use Rattle.streetmap_rows.proofs.ReadsInTurn.{reads_by}
use Rattle.streetmap_reading.proofs.feature.text_row_at.Goals as goal

pub returns : goal.returns
returns g c =
    reads_by select_text_at _ c.only_row.ensures (λ s keeps. (text_at_rowid _ s keeps c.args.collection.now c.args.id.now c.args.rowid).plain)
    (λ clean took s limit keeps.
    let name = c.args.collection.now in
    let id = c.args.id.now in
    let only = rw (c.params-to_sql.ensures, c.params-to_sql-2.ensures, c.params-to_sql-3.ensures, to_z-of_z c.ranges.rowid) at took in
    if_found name id s (state g.S.Store c.args.conn.now) (state g.S.Store c.only_row.new.conn) _ c.only_row.result (row_at_is _ s keeps name id c.args.rowid)
    (only (row_at _ s keeps name id c.args.rowid) limit (text_at_rowid _ s keeps name id c.args.rowid)))
