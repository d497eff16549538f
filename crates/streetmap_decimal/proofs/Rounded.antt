-- The nearest whole number is one.
use Rattle.std.proofs.Common.{◌≡◌, true, false, not, ℤ, Option, Some, None, Err, refl, sym, ap, subst, ◌∙◌, arith}
use Rattle.std.specs.Option.{ok_or, option_eq}
use Rattle.std.specs.Ordering.{int_eq}
use Rattle.std.proofs.lemmas.Bool.{false≢true, not-false}
use Rattle.std.proofs.lemmas.Bool.Decides.{Decides-int_eq}
use Rattle.std.proofs.lemmas.Int.{ints}
use Rattle.streetmap_grid.specs.Range.{IsCoordinate}
use Rattle.streetmap_decimal.specs.declared.fault.DecimalFault.TheVariants.{TooManyDigits, OutOfGrid}
use Rattle.streetmap_decimal.specs.Grid.{IsNearest, IsBeyond, RoundsTo, Agrees}

pub nearest_once : (z g h : ℤ) → IsNearest z g → IsNearest z h → g ≡ h
nearest_once z g h i j = grind (arith, ints)

pub not_beyond : (z g : ℤ) → RoundsTo z (Some g) → IsBeyond z → ⊥
not_beyond z g i j = j.1.1 (subst IsCoordinate (nearest_once z g j.0 i.0 j.1.0) i.1)

pub rounds_once : (z : ℤ) (a b : Option ℤ) → RoundsTo z a → RoundsTo z b → a ≡ b
rounds_once z (Some g) (Some h) i j = ap Some (nearest_once z g h i.0 j.0)
rounds_once z (Some g) None i j = absurd (not_beyond z g i j)
rounds_once z None (Some h) i j = absurd (not_beyond z h j i)
rounds_once z None None i j = refl

-- both sides give the same
pub agrees_ok : (y z : ℤ) (o : Option ℤ) → RoundsTo y o → RoundsTo z o
    → Agrees y z (ok_or o OutOfGrid)
agrees_ok y z (Some g) h i = (h, i)
agrees_ok y z None h i = (h, i)

-- both sides give different results
pub agrees_err : (y z : ℤ) (a b : Option ℤ) → RoundsTo y a → RoundsTo z b → (b ≡ a → ⊥)
    → Agrees y z (Err TooManyDigits)
agrees_err y z a b h i differ = λ o j k. differ (rounds_once z b o i k ∙ rounds_once y o a j h)

-- ---- what the code's comparison says

pub equal_options : (a b : Option ℤ) → option_eq int_eq a b ≡ true → a ≡ b
equal_options None None e = refl
equal_options None (Some y) e = absurd (false≢true e)
equal_options (Some x) None e = absurd (false≢true e)
equal_options (Some x) (Some y) e = ap Some ((Decides-int_eq x y).0 e)

pub same_options : (a : Option ℤ) → option_eq int_eq a a ≡ true
same_options None = refl
same_options (Some x) = (Decides-int_eq x x).1 refl

pub differ : (a b : Option ℤ) → not (option_eq int_eq b a) ≡ true → b ≡ a → ⊥
differ a b e same =
    false≢true (sym (ap not (same_options a)) ∙ sym (ap (λ x. not (option_eq int_eq x a)) same) ∙ e)

pub do_not_differ : (a b : Option ℤ) → not (option_eq int_eq b a) ≡ false → b ≡ a
do_not_differ a b e = equal_options b a (not-false (option_eq int_eq b a) e)
