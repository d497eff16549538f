-- Rows of the rules on patience.
use Rattle.std.proofs.Common.{◌≡◌, ◌/◌, ◌<◌, ◌≤◌, ◌-◌, refl, arith}
use Rattle.streetmap_connections.specs.declared.limits.TheConstants.{LONGEST_REQUEST, PIECE}

-- 65,535 bytes are no whole piece, 65,536 and 131,071 one, 131,072 two
no_piece : 65535 / PIECE ≡ 0
no_piece = refl

one_piece : 65536 / PIECE ≡ 1
one_piece = refl

one_piece_still : 131071 / PIECE ≡ 1
one_piece_still = refl

two_pieces : 131072 / PIECE ≡ 2
two_pieces = refl

-- a request that began at 5 s may go on at 605 s, and is late a millisecond later
may_go_on : 605000 - 5000 ≤ LONGEST_REQUEST
may_go_on = omega arith

is_late : LONGEST_REQUEST < 605001 - 5000
is_late = omega arith
