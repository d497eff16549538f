use Rattle.streetmap_compact_reader.proofs.MemberFronts.{object_front, empty_front, null_front}
use Rattle.streetmap_compact_reader.proofs.properties.take_properties.Goals as goal

pub returns-in_default : goal.returns-in_default
returns-in_default c = null_front _ _ _ c.in_ok-after.ensures

pub returns-in-Some-after_byte : goal.returns-in-Some-after_byte
returns-in-Some-after_byte c = empty_front _ _ _ _ c.in-Some.ensures c.in-Some-after_byte.ensures

pub returns-in_ok-found-in-None : goal.returns-in_ok-found-in-None
returns-in_ok-found-in-None c = object_front _ _ _ _ _ c.in-Some.ensures c.in_ok-found-in-None.ensures
