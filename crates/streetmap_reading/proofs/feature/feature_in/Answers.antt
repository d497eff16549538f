use Rattle.std.specs.FinMap.{get}
use Rattle.sqlite.specs.Held.{state}
use Rattle.sqlite.proofs.StateLemmas.{unchanged}
use Rattle.streetmap_reading.proofs.BetweenRows.{survives_still}
use Rattle.streetmap_reading.proofs.FeatureStatement.{some_cell, text_first, stored_at, timeless, holder, read_on}
use Rattle.streetmap_reading.proofs.feature.feature_in.Goals as goal

pub returns-then-is_timeless : goal.returns-then-is_timeless
returns-then-is_timeless g c =
    let seen = state g.S.Store c.args.conn.now in
    record {
      shows = λ clean s id f limit live keeps there is.
          let none = c.is_timeless.ensures f is c.if-is_timeless.true in
          let it = holder (get s.collections c.args.collection.now) id f there in
          let kept = timeless it.0.time f (stored_at _ s keeps c.args.collection.now id it.0 it.1 f there) none in
          read_on seen seen f c.read_row.result (unchanged seen live)
          (c.read_row.ensures.reads f (some_cell f c.args.row.now is) (text_first f c.args.row.now is)
          kept);
      mode = λ idle. idle;
      survives = survives_still seen (λ _. Unit {0});
      stays = λ clean s limit keeps trees left. left;
    }
