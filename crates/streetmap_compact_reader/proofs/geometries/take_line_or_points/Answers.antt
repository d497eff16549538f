use Rattle.std.proofs.Common.{arith}
use Rattle.streetmap_compact_reader.proofs.GeometryFronts.{line_front, points_front}
use Rattle.streetmap_compact_reader.proofs.geometries.take_line_or_points.Goals as goal

pub returns-else-kept-lt2 : goal.returns-else-kept-lt2
returns-else-kept-lt2 c = line_front _ _ _ _ c.in_ok-kept.ensures (omega arith) c.in-Some.ensures

pub returns-in_ok-following-in-None : goal.returns-in_ok-following-in-None
returns-in_ok-following-in-None c = points_front _ _ _ _ c.in_ok-kept.ensures c.in_ok-following-in-None.ensures
