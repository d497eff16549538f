use Rattle.streetmap_http.proofs.LineCounting.{field_lines_are_lines}
use Rattle.streetmap_http.proofs.laws.field_lines_are_lines.Goals as goal

pub returns : goal.returns
returns c = field_lines_are_lines
