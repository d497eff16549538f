use Rattle.std.proofs.Common.{arith}
use Rattle.std.proofs.lemmas.Str.{IsCharBoundary-after_ascii}
use Rattle.streetmap_compact_reader.proofs.fronts.first_byte.Goals as goal

pub range_from-requires : goal.range_from-requires
range_from-requires c = λ _. IsCharBoundary-after_ascii c.args.rest.now 0 c.utf8.rest (grind arith) (grind arith)
