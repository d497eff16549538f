use Rattle.std.specs.Prelude.{int_le}
use Rattle.std.proofs.lemmas.Bool.Decides.{Decides-at}
use Rattle.streetmap_grid.specs.Views.{box_value}
use Rattle.streetmap_grid.specs.Extent.{overlaps}
use Rattle.streetmap_grid.proofs.Overlapping.{overlaps_decides}
use Rattle.streetmap_grid.proofs.Booleans.{and_nested}
use Rattle.streetmap_grid.proofs.Compared.{compared}
use Rattle.streetmap_grid.proofs.grid_box.GridBox.overlaps.Goals as goal

pub returns-then-ranges_meet : goal.returns-then-ranges_meet
returns-then-ranges_meet c =
    let a = c.args.self.now in
    let b = c.args.other.now in
    let x = compared a.x0 b.x1 b.x0 a.x1 c.ranges_meet.result a.west b.east b.west a.east c.ranges_meet.ensures in
    let y = compared a.y0 b.y1 b.y0 a.y1 c.ranges_meet-then-ranges_meet.result a.south b.north b.south a.north c.ranges_meet-then-ranges_meet.ensures in
    let e = and_nested (int_le a.x0 b.x1) (int_le b.x0 a.x1) (int_le a.y0 b.y1) (int_le b.y0 a.y1) c.ranges_meet.result c.ranges_meet-then-ranges_meet.result x c.if-ranges_meet.true y in
    record {
      point = Decides-at c.ranges_meet-then-ranges_meet.result (overlaps (box_value a) (box_value b)) e (overlaps_decides (box_value a) (box_value b) (a.wide, a.tall) (b.wide, b.tall));
      test = e;
    }
