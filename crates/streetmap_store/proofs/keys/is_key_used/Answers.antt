use Rattle.std.proofs.Common.{◌≡◌, ap, sym, rules, Option}
use Rattle.std.specs.FinMap.{get}
use Rattle.std.specs.Option.{is_some}
use Rattle.streetmap_ledger.specs.State.{AcceptedBatch}
use Rattle.streetmap_rows.specs.Views.{kept_view}
use Rattle.streetmap_tables.proofs.RestsAfterRead.{the_row, no_row}
use Rattle.streetmap_store.proofs.keys.is_key_used.Goals as goal

pub returns-in-Some : goal.returns-in-Some
returns-in-Some g c = record {
  shows = λ clean s unlimited keeps.
      let r = c.in-Ok.ensures.reads_state clean unlimited s keeps.rows in
      let k = the_row kept_view (get s.keys c.args.key.now) c.deref.result.now _ (search rules) c.in-Some.ensures.value in
      (sym (ap (λ (o : Option AcceptedBatch). is_some o) k.1), r.1);
  mode = λ idle. c.kept_rows.ensures.idle;
  survives = c.kept_rows.ensures.survives;
  stays = λ clean s unlimited keeps trees left. c.kept_rows.ensures.crash clean s keeps.rows trees left;
}

pub returns-in-Ok : goal.returns-in-Ok
returns-in-Ok g c = record {
  shows = λ clean s unlimited keeps.
      let r = c.in-Ok.ensures.reads_state clean unlimited s keeps.rows in
      let none = no_row kept_view (get s.keys c.args.key.now) c.deref.result.now (search rules) c.in-None.ensures.value in
      (sym (ap (λ (o : Option AcceptedBatch). is_some o) none), r.1);
  mode = λ idle. c.kept_rows.ensures.idle;
  survives = c.kept_rows.ensures.survives;
  stays = λ clean s unlimited keeps trees left. c.kept_rows.ensures.crash clean s keeps.rows trees left;
}

pub returns : goal.returns
returns g c = record {
  shows = λ clean s unlimited keeps.
      let r = c.in-Err.ensures.reads_state clean unlimited s keeps.rows in
      (r.0, c.in-Err.ensures.reason clean, r.1);
  mode = λ idle. c.kept_rows.ensures.idle;
  survives = c.kept_rows.ensures.survives;
  stays = λ clean s unlimited keeps trees left. c.kept_rows.ensures.crash clean s keeps.rows trees left;
}
