use Rattle.std.specs.Prelude.{int_le, ◌&&◌}
use Rattle.std.proofs.lemmas.Bool.Decides.{Decides-at}
use Rattle.streetmap_grid.specs.Views.{box_value}
use Rattle.streetmap_grid.specs.Extent.{is_within}
use Rattle.streetmap_grid.proofs.Within.{within_decides}
use Rattle.streetmap_grid.proofs.Booleans.{and_nested, and_early}
use Rattle.streetmap_grid.proofs.Compared.{compared}
use Rattle.streetmap_grid.proofs.grid_box.GridBox.is_within.Goals as goal

pub returns-then-range_within : goal.returns-then-range_within
returns-then-range_within c =
    let a = c.args.self.now in
    let b = c.args.other.now in
    let x = compared b.x0 a.x0 a.x1 b.x1 c.range_within.result b.west a.west a.east b.east c.range_within.ensures in
    let y = compared b.y0 a.y0 a.y1 b.y1 c.range_within-then-range_within.result b.south a.south a.north b.north c.range_within-then-range_within.ensures in
    let e = and_nested (int_le b.x0 a.x0) (int_le a.x1 b.x1) (int_le b.y0 a.y0) (int_le a.y1 b.y1) c.range_within.result c.range_within-then-range_within.result x c.if-range_within.true y in
    record {
      points = Decides-at c.range_within-then-range_within.result (is_within (box_value a) (box_value b)) e (within_decides (box_value a) (box_value b) (a.wide, a.tall));
      test = e;
    }

pub returns-else-range_within-clause-points : goal.returns-else-range_within-clause-points
returns-else-range_within-clause-points c =
    let a = c.args.self.now in
    let b = c.args.other.now in
    let x = compared b.x0 a.x0 a.x1 b.x1 c.range_within.result b.west a.west a.east b.east c.range_within.ensures in
    let e = and_early (int_le b.x0 a.x0) (int_le a.x1 b.x1) (int_le b.y0 a.y0 && int_le a.y1 b.y1) c.range_within.result x c.if-range_within.false in
    Decides-at c.range_within.result (is_within (box_value a) (box_value b)) e (within_decides (box_value a) (box_value b) (a.wide, a.tall))
