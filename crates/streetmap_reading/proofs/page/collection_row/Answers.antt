use Rattle.std.proofs.Common.{◌∷◌, [], sym, option_map}
use Rattle.std.specs.FinMap.{get}
use Rattle.sqlite.specs.Held.{state}
use Rattle.sqlite.specs.declared.types.Value.TheVariants.{Text as Words}
use Rattle.streetmap_rows.specs.Statements.{select_collection}
use Rattle.streetmap_rows.specs.Views.{collection_view}
use Rattle.streetmap_rows.proofs.ReadsInTurn.{read_by}
use Rattle.streetmap_reading.proofs.PageRowsShown.{collection_at, select_collection_plain}
use Rattle.streetmap_reading.proofs.PageStatements.{popped}
use Rattle.streetmap_reading.proofs.QueryFails.{reported}
use Rattle.streetmap_reading.proofs.WholeQueries.{answered}
use Rattle.streetmap_reading.proofs.page.collection_row.Goals as goal

pub returns-in-Ok : goal.returns-in-Ok
returns-in-Ok g c =
    read_by select_collection _ c.in-Ok.ensures.mode c.in-Ok.ensures.survives (λ s keeps. select_collection_plain _ s keeps) (λ clean s limit keeps.
    let ran = rw (c.params-to_sql.ensures) at (c.in-Ok.ensures.ok clean) in
    let shown = answered select_collection (Words c.args.id.now ∷ []) (state g.S.Store c.args.conn.now) (state g.S.Store c.query_all.new.self) _
    (collection_at _ s keeps c.args.id.now) c.in-Ok.rows.items ran in (
      popped (option_map collection_view (get s.collections c.args.id.now)) c.pop.result c.pop.new.self.items c.in-Ok.rows.items _ _ shown.0 c.pop.ensures.items
          (sym c.in-Ok.rows.ok.0) c.pop.ensures.cases,
      shown.1,
    ))

pub returns-in-Err : goal.returns-in-Err
returns-in-Err g c =
    read_by select_collection _ c.in-Err.ensures.mode c.in-Err.ensures.survives (λ s keeps. select_collection_plain _ s keeps) (λ clean s limit keeps.
    let ran = rw (c.params-to_sql.ensures) at (c.in-Err.ensures.err clean) in
    reported select_collection (Words c.args.id.now ∷ []) (state g.S.Store c.args.conn.now) (state g.S.Store c.query_all.new.self) _
    (collection_at _ s keeps c.args.id.now) limit c.in-Err.error ran)
