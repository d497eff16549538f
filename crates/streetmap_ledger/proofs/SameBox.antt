-- Boxes with the same bounds are one box.
use Rattle.std.proofs.Common.{◌≡◌, ℤ, ◌≤ℤ◌, ap, subst, arith, w32, w64, to_z, of_z}
use Rattle.std.proofs.Math.Dec.{T_prop}
use Rattle.std.proofs.lemmas.Int.{ints, to_z-of_z}
use Rattle.streetmap_grid.specs.Range.{IsBound}
use Rattle.streetmap_grid.specs.declared.grid_box.GridBox.{GridBox}

-- what the fields of a box say
abbrev Facts : (x0 y0 x1 y1 : ℤ) → Type 0
Facts x0 y0 x1 y1 = IsBound x0 × IsBound y0 × IsBound x1 × IsBound y1 × (x0 ≤ℤ x1) × (y0 ≤ℤ y1)

one_way : (x0 y0 x1 y1 : ℤ) → IsProp (Facts x0 y0 x1 y1)
one_way x0 y0 x1 y1 = hlevel T_prop

abbrev made : (x0 y0 x1 y1 : ℤ) → Facts x0 y0 x1 y1 → GridBox
made x0 y0 x1 y1 h = record { x0 = x0; y0 = y0; x1 = x1; y1 = y1; west = h.0; south = h.1; east = h.2; north = h.3; wide = h.4; tall = h.5 }

abbrev facts : (b : GridBox) → Facts b.x0 b.y0 b.x1 b.y1
facts b = (b.west, b.south, b.east, b.north, b.wide, b.tall)

pub same_box : (a b : GridBox) → a.x0 ≡ b.x0 → a.y0 ≡ b.y0 → a.x1 ≡ b.x1 → a.y1 ≡ b.y1 → a ≡ b
same_box a b p q r s =
    subst (λ x. (h : Facts x b.y0 b.x1 b.y1) → a ≡ made x b.y0 b.x1 b.y1 h) p
    (subst (λ y. (h : Facts a.x0 y b.x1 b.y1) → a ≡ made a.x0 y b.x1 b.y1 h) q
    (subst (λ x. (h : Facts a.x0 a.y0 x b.y1) → a ≡ made a.x0 a.y0 x b.y1 h) r
    (subst (λ y. (h : Facts a.x0 a.y0 a.x1 y) → a ≡ made a.x0 a.y0 a.x1 y h) s
    (λ h. ap (made a.x0 a.y0 a.x1 a.y1) (one_way a.x0 a.y0 a.x1 a.y1 (facts a) h))))) (facts b)

-- a bound in 32 bits is the same in 64
pub same_bound : (n x y : ℤ) → n ≡ to_z w32 (of_z w32 x) → IsBound x → x ≡ y → to_z w64 (of_z w64 n) ≡ y
same_bound n x y is fits same = grind (arith, ints, to_z-of_z)
