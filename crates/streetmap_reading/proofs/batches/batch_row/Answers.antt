use Rattle.std.proofs.Common.{sym, option_map, pos, [], ◌∷◌, ◌∙◌, to_z-of_z}
use Rattle.sqlite.specs.Held.{state}
use Rattle.sqlite.specs.declared.types.Value.TheVariants.{Int}
use Rattle.streetmap_ledger.specs.Kept.{batch_in}
use Rattle.streetmap_rows.proofs.ReadsInTurn.{read_by}
use Rattle.streetmap_reading.proofs.PageStatements.{popped}
use Rattle.streetmap_reading.proofs.QueryFails.{reported}
use Rattle.streetmap_reading.proofs.WholeQueries.{answered}
use Rattle.streetmap_reading.specs.Serials.{row_of}
use Rattle.streetmap_reading.specs.BatchStatements.{select_serial}
use Rattle.streetmap_reading.proofs.SerialStatement.{serial_at}
use Rattle.streetmap_reading.proofs.batches.batch_row.Goals as goal

pub returns-in-Ok : goal.returns-in-Ok
returns-in-Ok g c =
    read_by select_serial _ c.in-Ok.ensures.mode c.in-Ok.ensures.survives (λ s keeps. (serial_at _ s keeps 1).plain) (λ clean n is s limit keeps.
    let old = state g.S.Store c.args.conn.now in
    let new = state g.S.Store c.query_all.new.self in
    let value = to_z-of_z c.ranges.serial ∙ is in
    let ran = rw (c.params-to_sql.ensures, value) at (c.in-Ok.ensures.ok clean) in
    let shown = answered select_serial (Int (pos n) ∷ []) old new _ (serial_at _ s keeps n)
    c.in-Ok.rows.items ran in (
      popped (option_map row_of (batch_in s n)) c.pop.result c.pop.new.self.items c.in-Ok.rows.items
          _ _ shown.0 c.pop.ensures.items (sym c.in-Ok.rows.ok.0) c.pop.ensures.cases,
      shown.1,
    ))

pub returns-in-Err : goal.returns-in-Err
returns-in-Err g c =
    read_by select_serial _ c.in-Err.ensures.mode c.in-Err.ensures.survives (λ s keeps. (serial_at _ s keeps 1).plain) (λ clean n is s limit keeps.
    let value = to_z-of_z c.ranges.serial ∙ is in
    let ran = rw (c.params-to_sql.ensures, value) at (c.in-Err.ensures.err clean) in
    reported select_serial (Int (pos n) ∷ []) (state g.S.Store c.args.conn.now)
    (state g.S.Store c.query_all.new.self) _ (serial_at _ s keeps n) limit c.in-Err.error ran)
