use Rattle.std.proofs.Common.{arith, ◌∙◌, refl, rules, map, MatchResult}
use Rattle.std.proofs.lemmas.Grind.{common_steps}
use Rattle.sqlite.specs.Held.{state}
use Rattle.sqlite.specs.State.{HasCleanDisk, IsUnchanged}
use Rattle.sqlite.specs.Values.{bound}
use Rattle.sqlite.proofs.Callers.{begun_plain}
use Rattle.streetmap_rows.specs.TableReads.{Stopped}
use Rattle.streetmap_rows.proofs.ReadsInTurn.{clean_before}
use Rattle.streetmap_reading.proofs.QueryFails.{reported}
use Rattle.streetmap_reading.proofs.NextRow.{shows_still}
use Rattle.streetmap_ledger.specs.KeptView.{keyed_batches}
use Rattle.streetmap_reading.specs.Scans.{AreFirst}
use Rattle.streetmap_reading.specs.Serials.{row_of}
use Rattle.streetmap_reading.proofs.NextBatches.{taken_on}
use Rattle.streetmap_reading.proofs.scans.first_batches.Goals as goal

pub returns-in-Err : goal.returns-in-Err
returns-in-Err g c = record {
  shows = λ clean all limit shows keys.
      let left = rw c.in-Err.is at c.query.follows.holds-at-none in
      reported c.args.sql.now (bound c.args.params.now) (state g.S.Store c.args.conn.now)
      (state g.S.Store c.query.follows.lender-at-none) _ shows limit c.in-Err.error (left.err clean);
  mode = first_of (search rules, grind (arith, common_steps));
  survives = first_of (search rules, grind (arith, common_steps));
}

pub returns-in-Ok : goal.returns-in-Ok
returns-in-Ok g c = record {
  shows = λ clean all limit shows keys.
      let sql = c.args.sql.now in
      let params = bound c.args.params.now in
      let old = state g.S.Store c.args.conn.now in
      let mid = state g.S.Store c.in-Ok.rows.conn.now in
      let new = state g.S.Store c.next_batches.new.rows.conn.now in
      let late : HasCleanDisk new = search rules in
      let begun = begun_plain g.S.Store sql params c.args.conn.now c.in-Ok.rows.conn.now shows.plain
      (c.in-Ok.ensures.begun (clean_before _ _ _ c.next_batches.ensures.survives late)) in
      let still = shows_still old mid sql params (map row_of all)
      (map row_of all) begun.1 refl shows in
      let took = c.next_batches.ensures.takes late sql params all
      (c.in-Ok.ensures.survives.limit ∙ limit) still keys begun.0 in
      let done : MatchResult c.next_batches.result
      (λ found. AreFirst c.args.room all (keyed_batches found.items) × IsUnchanged old new)
      (Stopped old new) =
      taken_on old mid new (λ found. AreFirst c.args.room all (keyed_batches found.items))
      c.next_batches.result begun.1 c.in-Ok.ensures.survives.counts took in
      search rules;
  mode = first_of (search rules, grind (arith, common_steps));
  survives = first_of (search rules, grind (arith, common_steps));
}
