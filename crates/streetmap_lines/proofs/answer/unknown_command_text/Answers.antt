use Rattle.std.proofs.Common.{refl, lit≤}
use Rattle.json.specs.Print.{escape_byte}
use Rattle.streetmap_lines.proofs.answer.unknown_command_text.Goals as goal

pub push_error-requires-clause-plain_code : goal.push_error-requires-clause-plain_code
unfolding escape_byte
push_error-requires-clause-plain_code c = (refl, lit≤ tt)

pub push_error-requires-clause-plain_description : goal.push_error-requires-clause-plain_description
unfolding escape_byte
push_error-requires-clause-plain_description c = (refl, lit≤ tt)
