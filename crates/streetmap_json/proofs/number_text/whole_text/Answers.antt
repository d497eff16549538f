use Rattle.std.proofs.Common.{rules}
use Rattle.streetmap_json.specs.NumberText.{whole_text}
use Rattle.streetmap_json.proofs.number_text.whole_text.Goals as goal

pub returns-then-eq : goal.returns-then-eq
unfolding whole_text
returns-then-eq c = search rules

pub returns-else-eq : goal.returns-else-eq
unfolding whole_text
returns-else-eq c = search rules
