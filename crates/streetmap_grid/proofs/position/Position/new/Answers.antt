use Rattle.std.proofs.Common.{sym, ◌∙◌}
use Rattle.streetmap_grid.proofs.Booleans.{coordinate_in, height_in}
use Rattle.streetmap_grid.proofs.position.Position.new.Goals as goal

pub invariant_of-result : goal.invariant_of-result
invariant_of-result c =
    record {
      easting = coordinate_in _ (sym c.is_coordinate.ensures ∙ c.if-not-is_coordinate.false);
      northing = coordinate_in _ (sym c.is_coordinate-else-not-is_coordinate.ensures ∙ c.if-not-is_coordinate-2.false);
      height = height_in c.args.z (sym c.is_height.ensures ∙ c.if-not-is_height.false);
    }
