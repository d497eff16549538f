use Rattle.std.proofs.Common.{sym}
use Rattle.sqlite.specs.Held.{state}
use Rattle.sqlite.specs.Values.{bound}
use Rattle.streetmap_reading.proofs.PageStatements.{popped}
use Rattle.streetmap_reading.proofs.QueryFails.{reported}
use Rattle.streetmap_reading.proofs.WholeQueries.{answered}
use Rattle.streetmap_reading.proofs.feature.only_row.Goals as goal

pub returns-in-Ok : goal.returns-in-Ok
returns-in-Ok g c = record {
  shows = λ clean o limit shows.
      let shown = answered c.args.sql.now (bound c.args.params.now) (state g.S.Store c.args.conn.now) (state g.S.Store c.query_all.new.self) _ shows
      c.in-Ok.rows.items (c.in-Ok.ensures.ok clean) in
      (popped o c.pop.result c.pop.new.self.items c.in-Ok.rows.items _ _ shown.0 c.pop.ensures.items (sym c.in-Ok.rows.ok.0) c.pop.ensures.cases, shown.1);
  mode = c.in-Ok.ensures.mode;
  survives = c.in-Ok.ensures.survives;
}

pub returns-in-Err : goal.returns-in-Err
returns-in-Err g c = record {
  shows = λ clean o limit shows.
      reported c.args.sql.now (bound c.args.params.now) (state g.S.Store c.args.conn.now) (state g.S.Store c.query_all.new.self) _ shows limit c.in-Err.error
      (c.in-Err.ensures.err clean);
  mode = c.in-Err.ensures.mode;
  survives = c.in-Err.ensures.survives;
}
