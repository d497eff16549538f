use Rattle.std.proofs.Common.{rules}
use Rattle.streetmap_http.specs.Lengths.{length_of}
use Rattle.streetmap_http.proofs.length.read_length.Goals as goal

pub returns-in-Some-read_number : goal.returns-in-Some-read_number
unfolding length_of
returns-in-Some-read_number c = search rules
