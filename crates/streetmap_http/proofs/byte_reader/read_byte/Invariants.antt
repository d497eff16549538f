use Rattle.std.proofs.Common.{◌≡◌, length}
use Rattle.std.specs.Io.KnownBytes.{Keeps}
use Rattle.streetmap_http.proofs.byte_reader.read_byte.Given as goal

abbrev pub invariant-loop-turn : goal.invariant-loop-turn
invariant-loop-turn g l = (length l.one ≡ 1) × Keeps (g.R.Read.remaining l.initial.reader) (g.R.Read.remaining l.reader)
