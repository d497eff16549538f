use Rattle.std.proofs.Common.{rules}
use Rattle.streetmap_moment.specs.DateTimeParts.{offset_of}
use Rattle.streetmap_moment.proofs.fields.offset.Goals as goal

pub returns-in_ok-hours-in-45-clause-value : goal.returns-in_ok-hours-in-45-clause-value
unfolding offset_of
returns-in_ok-hours-in-45-clause-value c = search rules
