-- What a call says of the bounds of boxes that were passed to it.
use Rattle.std.specs.Prelude.{ℤ, Bool, ◌&&◌, int_le, ◌≡◌}
use Rattle.std.proofs.Common.{FitsSigned, arith, w64}
use Rattle.std.proofs.lemmas.Int.{ints, to_z-of_z}
use mir.Val.{to_z, of_z}
use Rattle.streetmap_grid.specs.Range.{IsBound}

pub bound_fits : (n : ℤ) → IsBound n → FitsSigned w64 n
bound_fits n h = omega (arith, ints, h)

-- two comparisons, as the caller sees them
pub compared : (a b c d : ℤ) (r : Bool) → IsBound a → IsBound b → IsBound c → IsBound d
    → r ≡ int_le (to_z w64 (of_z w64 a)) (to_z w64 (of_z w64 b)) && int_le (to_z w64 (of_z w64 c)) (to_z w64 (of_z w64 d)) → r ≡ int_le a b && int_le c d
compared a b c d r ha hb hc hd e =
    let fa : FitsSigned w64 a = bound_fits a ha in
    let fb : FitsSigned w64 b = bound_fits b hb in
    let fc : FitsSigned w64 c = bound_fits c hc in
    let fd : FitsSigned w64 d = bound_fits d hd in
    simp to_z-of_z at e
