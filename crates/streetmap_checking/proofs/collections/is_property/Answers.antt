use Rattle.std.proofs.Common.{rules}
use Rattle.streetmap_checking.proofs.Refusing.{property_is}
use Rattle.streetmap_checking.proofs.collections.is_property.Goals as goal

pub returns-in-Some : goal.returns-in-Some
returns-in-Some c = property_is _ _ c.as_str.result.now (search rules) c.as_str.utf8 c.is_time_property.ensures
