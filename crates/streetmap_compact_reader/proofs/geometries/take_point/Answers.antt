use Rattle.streetmap_grid.specs.Views.{position_value}
use Rattle.streetmap_grid.proofs.Facts.{position_facts}
use Rattle.streetmap_compact_reader.proofs.GeometryFronts.{point_front}
use Rattle.streetmap_compact_reader.proofs.geometries.take_point.Goals as goal

pub returns : goal.returns
returns c =
    point_front (position_value c.in_ok-position.position) _ _ _ _ (position_facts c.in_ok-position.position) c.in_ok-position.ensures c.in_ok-following.ensures
    c.extent_at.ensures
