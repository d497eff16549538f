use Rattle.std.proofs.Common.{arith}
use Rattle.std.proofs.lemmas.Str.{IsCharBoundary-after_ascii, is_utf8-from_IsUtf8}
use Rattle.streetmap_compact_reader.proofs.texts.take_unquoted.Goals as goal

pub range_from-requires : goal.range_from-requires
range_from-requires c = λ _. IsCharBoundary-after_ascii c.args.rest.now c.plain_len-end.result c.utf8.rest (grind arith) (grind arith)

pub returns-then-bytes-end-eq34-clause-utf8 : goal.returns-then-bytes-end-eq34-clause-utf8
returns-then-bytes-end-eq34-clause-utf8 c = is_utf8-from_IsUtf8 _ c.range.utf8
