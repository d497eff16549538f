use Rattle.std.proofs.Common.{None, Some, rules, SFits, w64}
use Rattle.std.proofs.lemmas.Int.{to_z-of_z}
use Rattle.streetmap_moment.specs.Views.{interval_value}
use Rattle.streetmap_rows.specs.Statements.{select_in_time}
use Rattle.streetmap_reading.proofs.PageRowsShown.{time_at, select_in_time_plain}
use Rattle.streetmap_reading.proofs.PageStatements.{takes_by}
use Rattle.streetmap_rows.proofs.ReadsInTurn.{reads_by}
use Rattle.streetmap_reading.proofs.page.take_in_time.Goals as goal

pub returns : goal.returns
returns g c =
    reads_by select_in_time _ c.fold_rows.ensures (λ s keeps. select_in_time_plain _ s keeps) (λ clean took.
    let f0 : SFits w64 c.seconds-start.result.0 = search rules in
    let f1 : SFits w64 c.seconds-start.result.1 = search rules in
    let all = rw (
      c.params-to_sql.ensures,
      c.params-to_sql-2.ensures,
      c.params-to_sql-3.ensures,
      to_z-of_z w64 c.seconds-start.result.0 f0,
      to_z-of_z w64 c.seconds-start.result.1 f1,
      c.seconds-start.ensures.value,
    ) at took in
    takes_by select_in_time _ None (Some (interval_value c.args.interval.now)) c.args.collection.now _ _ c.args.page.now _ _ all
    (λ s d keeps there. time_at _ s keeps c.args.collection.now d there (interval_value c.args.interval.now)))
