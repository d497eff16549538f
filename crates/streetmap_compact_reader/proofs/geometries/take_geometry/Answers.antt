use Rattle.streetmap_compact_reader.proofs.GeometryFronts.{geometry_front}
use Rattle.streetmap_compact_reader.proofs.geometries.take_geometry.Goals as goal

pub returns-in_ok-extent-in-Some : goal.returns-in_ok-extent-in-Some
returns-in_ok-extent-in-Some c = geometry_front _ _ _ _ c.in-Some.ensures c.in_ok-extent-in-Some.ensures
