use Rattle.streetmap_compact_reader.proofs.GeometryFronts.{polygon_front}
use Rattle.streetmap_compact_reader.proofs.geometries.take_polygon.Goals as goal

pub returns : goal.returns
returns c = polygon_front _ _ _ _ c.in_ok-extent.ensures c.in_ok-following.ensures
