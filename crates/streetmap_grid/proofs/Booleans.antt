-- What the tests of ranges and orders say.
use Rattle.std.specs.Prelude.{ℕ, ◌≤◌, nat_lt, ℤ, ◌≤ℤ◌, Bool, true, false, ◌&&◌, int_le, ◌≡◌, refl, Option, Some, None, IfSome}
use Rattle.std.specs.Bool.{OnTrue}
use Rattle.std.proofs.Common.{arith}
use Rattle.std.proofs.lemmas.Int.{ints}
use Rattle.std.proofs.lemmas.Bool.Decides.{nat_tests}
use Rattle.streetmap_grid.specs.Range.{IsCoordinate, IsBound, is_coordinate, is_bound}
use Rattle.streetmap_grid.specs.Faults.{is_height}

pub both : (a b : Bool) → a && b ≡ true → (a ≡ true) × (b ≡ true)
both true b h = (refl, h)
both false b h = cc

pub le_true : (a b : ℤ) → int_le a b ≡ true → a ≤ℤ b
le_true a b h = grind (arith, ints)

pub true_le : (a b : ℤ) → a ≤ℤ b → int_le a b ≡ true
true_le a b h = grind (arith, ints)

pub coordinate_in : (n : ℤ) → is_coordinate n ≡ true → IsCoordinate n
coordinate_in n h = let b = both _ _ h in (le_true _ _ b.0, le_true _ _ b.1)

pub height_in : (z : Option ℤ) → is_height z ≡ true → IfSome z IsCoordinate
height_in None h = tt
height_in (Some z) h = coordinate_in z h

pub bound_in : (n : ℤ) → is_bound n ≡ true → IsBound n
bound_in n h = let b = both _ _ h in (le_true _ _ b.0, le_true _ _ b.1)

pub and_true : (a b : Bool) → a ≡ true → b ≡ true → a && b ≡ true
and_true a b h k = cc

pub and_false : (a b : Bool) → b ≡ false → a && b ≡ false
and_false true b h = h
and_false false b h = refl

pub long_enough : (n m : ℕ) → m ≤ n → nat_lt n m ≡ false
long_enough n m h = grind (arith, nat_tests)

pub and_nested : (a b c d r s : Bool) → r ≡ a && b → r ≡ true → s ≡ c && d → s ≡ a && (b && (c && d))
and_nested true true c d r s e h f = f
and_nested true false c d r s e h f = cc
and_nested false b c d r s e h f = cc

pub and_early : (a b c r : Bool) → r ≡ a && b → r ≡ false → r ≡ a && (b && c)
and_early true true c r e h = cc
and_early true false c r e h = h
and_early false b c r e h = h

pub on_true : (b : Bool) (P : Type 0) → (b ≡ true → P) → OnTrue b P
on_true true P f = f refl
on_true false P f = tt
