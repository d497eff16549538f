use Rattle.std.proofs.Common.{arith, rules}
use Rattle.std.proofs.lemmas.Grind.{common_steps}
use Rattle.sqlite.specs.Held.{state}
use Rattle.sqlite.specs.State.{HasCleanDisk}
use Rattle.sqlite.specs.Values.{bound}
use Rattle.streetmap_rows.proofs.ReadsInTurn.{clean_before}
use Rattle.streetmap_reading.proofs.ShownQueries.{begun, simple_there}
use Rattle.streetmap_reading.proofs.Stopping.{some_on, some_at, refused}
use Rattle.streetmap_reading.proofs.fold.fold_first.Goals as goal

pub returns-in-Err : goal.returns-in-Err
returns-in-Err g c = record {
  shows = λ clean simple held.
      let old = state g.S.Store c.args.conn.now in
      let new = state g.S.Store c.query.follows.lender-at-none in
      let left = rw c.in-Err.is at c.query.follows.holds-at-none in
      refused c.args.sql.now (bound c.args.params.now) old new c.in-Err.error simple (left.err clean);
  mode = first_of (search rules, grind (arith, common_steps));
  survives = first_of (search rules, grind (arith, common_steps));
}

pub returns-in-Ok : goal.returns-in-Ok
returns-in-Ok g c = record {
  shows = λ clean simple held.
      let sql = c.args.sql.now in
      let params = bound c.args.params.now in
      let old = state g.S.Store c.args.conn.now in
      let mid = state g.S.Store c.in-Ok.rows.conn.now in
      let new = state g.S.Store c.take_first.new.rows.conn.now in
      let query = c.in-Ok.ensures in
      let rest = c.take_first.ensures in
      let late : HasCleanDisk new = search rules in
      let early = clean_before _ _ _ rest.survives late in
      let start = begun sql params g.S.Store c.args.conn.now c.in-Ok.rows.conn.now simple
      (query.begun early) in
      let still = simple_there sql mid old start.1.0.now_is simple in
      let took = rest.takes late sql params c.args.fold.now still start.0 held in
      let done = some_on g.F.RowFold.holds g.F.RowFold.is_good sql params c.args.fold.now
      c.take_first.new.fold old mid new c.take_first.result simple start.1 query.survives.limit
      query.survives.counts rest.survives.counts took in
      some_at g.F.RowFold.holds g.F.RowFold.is_good sql params c.args.fold.now c.take_first.new.fold
      old new _ c.take_first.result (search rules) done;
  mode = first_of (search rules, grind (arith, common_steps));
  survives = first_of (search rules, grind (arith, common_steps));
}
