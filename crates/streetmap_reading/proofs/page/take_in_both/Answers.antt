use Rattle.std.proofs.Common.{Some, rules, SFits, w64}
use Rattle.std.proofs.lemmas.Int.{to_z-of_z}
use Rattle.streetmap_grid.specs.Views.{box_value}
use Rattle.streetmap_moment.specs.Views.{interval_value}
use Rattle.streetmap_rows.specs.Statements.{select_in_both}
use Rattle.streetmap_reading.proofs.PageRowsShown.{both_at, select_in_both_plain}
use Rattle.streetmap_reading.proofs.PageStatements.{takes_by}
use Rattle.streetmap_rows.proofs.ReadsInTurn.{reads_by}
use Rattle.streetmap_reading.proofs.page.take_in_both.Goals as goal

pub returns : goal.returns
returns g c =
    reads_by select_in_both _ c.fold_rows.ensures (λ s keeps. select_in_both_plain _ s keeps) (λ clean took.
    let f0 : SFits w64 c.args.area.now.x0 = search rules in
    let f1 : SFits w64 c.args.area.now.x1 = search rules in
    let f2 : SFits w64 c.args.area.now.y0 = search rules in
    let f3 : SFits w64 c.args.area.now.y1 = search rules in
    let f4 : SFits w64 c.seconds-start.result.0 = search rules in
    let f5 : SFits w64 c.seconds-start.result.1 = search rules in
    let all = rw (
      c.params-to_sql.ensures,
      c.params-to_sql-2.ensures,
      c.params-to_sql-3.ensures,
      c.params-to_sql-4.ensures,
      c.params-to_sql-5.ensures,
      c.params-to_sql-6.ensures,
      c.params-to_sql-7.ensures,
      to_z-of_z w64 c.args.area.now.x0 f0,
      to_z-of_z w64 c.args.area.now.x1 f1,
      to_z-of_z w64 c.args.area.now.y0 f2,
      to_z-of_z w64 c.args.area.now.y1 f3,
      to_z-of_z w64 c.seconds-start.result.0 f4,
      to_z-of_z w64 c.seconds-start.result.1 f5,
      c.seconds-start.ensures.value,
    ) at took in
    takes_by select_in_both _ (Some (box_value c.args.area.now)) (Some (interval_value c.args.interval.now)) c.args.collection.now _ _ c.args.page.now _ _ all
    (λ s d keeps there. both_at _ s keeps c.args.collection.now d there (box_value c.args.area.now) (interval_value c.args.interval.now)))
