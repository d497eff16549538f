-- What is refused as out of the grid has no coordinate as its nearest whole number.
use Rattle.std.proofs.Common.{◌≡◌, ℕ, suc, ◌+◌, ◌*◌, ◌^◌, ◌<◌, ◌≤◌, Bool, true, false, inl, inr, List, Err, ℤ, pos, negsuc, ◌+ℤ◌, ◌-ℤ◌, ◌*ℤ◌, ◌≤ℤ◌, ◌<ℤ◌, sym, ap, subst, ◌∙◌, lit<, arith}
use Rattle.std.specs.Prelude.{unsigned_abs, int_lt}
use Rattle.std.proofs.lemmas.Bool.{cases_lt}
use Rattle.std.proofs.lemmas.Int.{ints, unsigned_abs-mul}
use Rattle.std.proofs.lemmas.Nat.{pow-add}
use Rattle.std.proofs.Math.Nat.{mul-le-mul_left, mul-le-mul_right, mul_assoc}
use Rattle.streetmap_grid.specs.Range.{IsCoordinate}
use Rattle.streetmap_decimal.specs.declared.axis.Axis.{Axis}
use Rattle.streetmap_decimal.specs.declared.axis.Axis.TheVariants.{Easting, Northing, Height}
use Rattle.streetmap_decimal.specs.declared.fault.DecimalFault.TheVariants.{OutOfGrid}
use Rattle.streetmap_decimal.specs.declared.rounding.Rounding.{Rounding}
use Rattle.streetmap_decimal.specs.declared.rounding.Rounding.TheVariants.{Exact, Nearest}
use Rattle.streetmap_decimal.specs.declared.shift.Shift.{Shift}
use Rattle.streetmap_decimal.specs.Axes.{shift_of}
use Rattle.streetmap_decimal.specs.NumberText.{signed}
use Rattle.streetmap_decimal.specs.Decimal.{IsCount, IsShifted, IsShiftedNatural, IsFloor, IsCeiling}
use Rattle.streetmap_decimal.specs.Grid.{IsNearestOf, IsBeyond, placed, Places, PlacesText}
use Rattle.streetmap_decimal.specs.Nearest.{IsOffGrid}
use Rattle.streetmap_decimal.proofs.Powers.{pow_some, nat_le_cancel}
use Rattle.streetmap_decimal.proofs.Signs.{sign_of, signed-mul}
use Rattle.streetmap_decimal.proofs.Shifting.{shifted-signed, shifted-abs}
use Rattle.streetmap_decimal.proofs.Enclosing.{sides_near}
use Rattle.streetmap_decimal.proofs.NearestFacts.{abs_apart}
use Rattle.streetmap_decimal.proofs.Once.{means_once, shifted_once}
use Rattle.streetmap_decimal.proofs.Exactly.{sub-mul, placed_scaled, in_order}

-- half a unit past the greatest coordinate, or farther from zero
abbrev IsFar : (units : ℕ) → ℤ → Type 0
IsFar units z = 2_000_000_001 * units ≤ 2 * unsigned_abs z

-- ---- what is far has no coordinate as its nearest whole number

near_line : (units : ℕ) (a z : ℤ) → 1 ≤ units → unsigned_abs a ≤ 1_000_000_000 * units
    → 2 * unsigned_abs (a -ℤ z) ≤ units
    → (2 * unsigned_abs (a -ℤ z) ≡ units → unsigned_abs z < unsigned_abs a)
    → 2 * unsigned_abs z < 2_000_000_001 * units
near_line units a z some within h i = grind (arith, ints)

not_far : (units : ℕ) (z g : ℤ) → 1 ≤ units → IsNearestOf units z g → IsCoordinate g
    → IsFar units z → ⊥
not_far units z g some h c far =
    let size = unsigned_abs-mul g (pos units) in
    let small : unsigned_abs g ≤ 1_000_000_000 = omega (arith, ints, c.0, c.1) in
    let bound = mul-le-mul_right {m = unsigned_abs g} {n = 1_000_000_000} units small in
    let near = near_line units (g *ℤ pos units) z some (omega (arith, size, bound)) h.0 h.1 in
    omega (arith, near, far)

coordinate_of : (g : ℤ) → unsigned_abs g ≤ 1_000_000_000 → IsCoordinate g
coordinate_of g h = (omega (arith, ints), omega (arith, ints))

far_line : (a z : ℤ) → 2 * unsigned_abs (a -ℤ z) ≤ 10 ^ 27 → 1_000_000_001 * 10 ^ 27 ≤ unsigned_abs a
    → 2_000_000_001 * 10 ^ 27 ≤ 2 * unsigned_abs z
far_line a z h i = grind (arith, ints)

beyond_far : (z : ℤ) → IsBeyond z → IsFar (10 ^ 27) z
beyond_far z h =
    let g = h.0 in
    let large : 1_000_000_000 < unsigned_abs g =
    elim (cases_lt 1_000_000_000 (unsigned_abs g))
    [ inl past ↦ past | inr small ↦ absurd (h.1.1 (coordinate_of g small)) ] in
    far_line (g *ℤ pos (10 ^ 27)) z h.1.0.0
    (omega (arith, large, unsigned_abs-mul g (pos (10 ^ 27))))

-- ---- in smaller units, and between two numbers

far_scaled : (units p : ℕ) (z : ℤ) → IsFar units z → IsFar (units * p) (z *ℤ pos p)
far_scaled units p z h =
    omega (
      arith,
      unsigned_abs-mul z (pos p),
      mul-le-mul_right {m = 2_000_000_001 * units} {n = 2 * unsigned_abs z} p h,
    )

between_far : (limit : ℕ) (y z x : ℤ) → y ≤ℤ x → x ≤ℤ z → limit ≤ 2 * unsigned_abs y
    → limit ≤ 2 * unsigned_abs z → unsigned_abs (y -ℤ z) < limit → limit ≤ 2 * unsigned_abs x
between_far limit y z x low high h i near = grind (arith, ints)

-- the counts y and z, and m between them in smaller units
finer_far : (shift scale m : ℤ) (p : ℕ) (y z : ℤ) → 1 ≤ p → pos 0 ≤ℤ scale → (y *ℤ pos p) ≤ℤ m
    → m ≤ℤ (z *ℤ pos p) → IsFar (10 ^ 27) (placed shift scale y)
    → IsFar (10 ^ 27) (placed shift scale z)
    → unsigned_abs (placed shift scale y -ℤ placed shift scale z) < 10 ^ 36
    → IsFar (10 ^ 27 * p) ((m -ℤ shift *ℤ pos p) *ℤ scale)
finer_far shift scale m p y z some up low high h i near =
    let t = shift *ℤ pos p in
    let x = (m -ℤ t) *ℤ scale in
    let a = placed shift scale y in
    let b = placed shift scale z in
    let below = subst (λ (w : ℤ). w ≤ℤ x) (sym (placed_scaled shift scale y p))
    (in_order t scale (y *ℤ pos p) m up low) in
    let above = subst (λ (w : ℤ). x ≤ℤ w) (sym (placed_scaled shift scale z p))
    (in_order t scale m (z *ℤ pos p) up high) in
    let apart : unsigned_abs (a *ℤ pos p -ℤ b *ℤ pos p) ≡ unsigned_abs (a -ℤ b) * p =
    ap unsigned_abs (sym (sub-mul a b (pos p))) ∙ unsigned_abs-mul (a -ℤ b) (pos p) in
    let close = mul-le-mul_right {m = unsigned_abs (a -ℤ b)} {n = 10 ^ 36} p (omega (arith, near)) in
    between_far (2_000_000_001 * (10 ^ 27 * p)) (a *ℤ pos p) (b *ℤ pos p) x below above
    (far_scaled (10 ^ 27) p a h) (far_scaled (10 ^ 27) p b i)
    (omega (arith, apart, close, some))

-- two consecutive counts are placed less far apart than that
gap : (b : Bool) (shift scale : ℤ) (u v : ℕ) → u ≤ v → v ≤ u + 1 → unsigned_abs scale < 10 ^ 36
    → unsigned_abs (placed shift scale (signed b u) -ℤ placed shift scale (signed b v)) < 10 ^ 36
gap b shift scale u v low high small =
    let y = signed b u -ℤ shift in
    let z = signed b v -ℤ shift in
    let size : unsigned_abs (y *ℤ scale -ℤ z *ℤ scale) ≡ unsigned_abs (y -ℤ z) * unsigned_abs scale =
    ap unsigned_abs (sym (sub-mul y z scale)) ∙ unsigned_abs-mul (y -ℤ z) scale in
    let step : y -ℤ z ≡ signed b u -ℤ signed b v = omega (arith, ints) in
    let one_apart : unsigned_abs (y -ℤ z) ≤ 1 =
    omega (arith, ap unsigned_abs step, abs_apart b u v) in
    omega (
      arith,
      size,
      small,
      mul-le-mul_right {m = unsigned_abs (y -ℤ z)} {n = 1} (unsigned_abs scale) one_apart,
    )

enclosed_far : (b : Bool) (shift scale m : ℤ) (p u v : ℕ) → 1 ≤ p → pos 0 ≤ℤ scale
    → unsigned_abs scale < 10 ^ 36 → m ≡ signed b (unsigned_abs m) → u * p ≤ unsigned_abs m
    → unsigned_abs m ≤ v * p → u ≤ v → v ≤ u + 1 → IsFar (10 ^ 27) (placed shift scale (signed b u))
    → IsFar (10 ^ 27) (placed shift scale (signed b v))
    → IsFar (10 ^ 27 * p) ((m -ℤ shift *ℤ pos p) *ℤ scale)
enclosed_far false shift scale m p u v some up small e low high order step h i =
    finer_far shift scale m p (pos u) (pos v) some up
    (omega (arith, ints, signed-mul false u p, e)) (omega (arith, ints, signed-mul false v p, e))
    h i (gap false shift scale u v order step small)
enclosed_far true shift scale m p u v some up small e low high order step h i =
    let close = gap true shift scale u v order step small in
    let y = placed shift scale (signed true u) in
    let z = placed shift scale (signed true v) in
    let turned : unsigned_abs (z -ℤ y) < 10 ^ 36 = grind (arith, ints) in
    finer_far shift scale m p (signed true v) (signed true u) some up
    (omega (arith, ints, signed-mul true v p, e)) (omega (arith, ints, signed-mul true u p, e))
    i h turned

-- ---- counts in smaller units

split : (a i j s : ℕ) → s ≡ i + j → a * 10 ^ s ≡ (a * 10 ^ i) * 10 ^ j
split a i j s e =
    ap (λ (x : ℕ). a * 10 ^ x) e ∙ ap (λ (x : ℕ). a * x) (pow-add 10 i j)
    ∙ sym (mul_assoc a (10 ^ i) (10 ^ j))

floor_scaled : (n : ℕ) (k l : ℤ) (more u w : ℕ) → l ≡ k +ℤ pos more → IsFloor n k u
    → IsShiftedNatural n l w → u * 10 ^ more ≤ w
floor_scaled n (pos j) (pos i) more u w e low is =
    let same : i ≡ j + more = omega (arith, ints, e) in
    omega (arith, is, split n j more i same, ap (λ (x : ℕ). x * 10 ^ more) low)
floor_scaled n (pos j) (negsuc i) more u w e low is = absurd (omega (arith, ints, e))
floor_scaled n (negsuc j) (pos i) more u w e low is =
    let same : more ≡ suc j + i = omega (arith, ints, e) in
    omega (
      arith,
      is,
      split u (suc j) i more same,
      mul-le-mul_right {m = u * 10 ^ suc j} {n = n} (10 ^ i) low.0,
    )
floor_scaled n (negsuc j) (negsuc i) more u w e low is =
    let same : suc j ≡ more + suc i = omega (arith, ints, e) in
    nat_le_cancel (u * 10 ^ more) w (10 ^ suc i) (pow_some (suc i))
    (omega (arith, is, low.0, split u more (suc i) (suc j) same))

ceiling_scaled : (n : ℕ) (k l : ℤ) (more v w : ℕ) → l ≡ k +ℤ pos more → IsCeiling n k v
    → IsShiftedNatural n l w → w ≤ v * 10 ^ more
ceiling_scaled n (pos j) (pos i) more v w e high is =
    let same : i ≡ j + more = omega (arith, ints, e) in
    omega (arith, is, split n j more i same, ap (λ (x : ℕ). x * 10 ^ more) high)
ceiling_scaled n (pos j) (negsuc i) more v w e high is = absurd (omega (arith, ints, e))
ceiling_scaled n (negsuc j) (pos i) more v w e high is =
    let same : more ≡ suc j + i = omega (arith, ints, e) in
    omega (
      arith,
      is,
      split v (suc j) i more same,
      mul-le-mul_right {m = n} {n = v * 10 ^ suc j} (10 ^ i) high.0,
    )
ceiling_scaled n (negsuc j) (negsuc i) more v w e high is =
    let same : suc j ≡ more + suc i = omega (arith, ints, e) in
    nat_le_cancel w (v * 10 ^ more) (10 ^ suc i) (pow_some (suc i))
    (omega (arith, is, high.0, split v more (suc i) (suc j) same))

floor_ceiling : (n : ℕ) (k : ℤ) (u v : ℕ) → IsFloor n k u → IsCeiling n k v → u ≤ v
floor_ceiling n (pos j) u v low high = omega (arith, low, high)
floor_ceiling n (negsuc j) u v low high =
    nat_le_cancel u v (10 ^ suc j) (pow_some (suc j)) (omega (arith, low.0, high.0))

-- a whole count is both
count_floor : (n : ℕ) (k : ℤ) (u : ℕ) → IsShiftedNatural n k u → IsFloor n k u
count_floor n (pos j) u h = h
count_floor n (negsuc j) u h =
    (omega (arith, h), omega (arith, h, pow_some (suc j)))

count_ceiling : (n : ℕ) (k : ℤ) (u : ℕ) → IsShiftedNatural n k u → IsCeiling n k u
count_ceiling n (pos j) u h = h
count_ceiling n (negsuc j) u h =
    (omega (arith, h), omega (arith, h, pow_some (suc j)))

-- a count has the sign of its number
count_sign : (m k u : ℤ) → IsShifted m k u → u ≡ signed (int_lt m (pos 0)) (unsigned_abs u)
count_sign m k u h =
    let b = int_lt m (pos 0) in
    shifted_once m k u (signed b (unsigned_abs u)) h
    (shifted-signed b m k (unsigned_abs u) (sign_of m) (shifted-abs m k u h))

-- ---- of a decimal

finer_power : (e : ℤ) (more : ℕ) → e +ℤ pos (18 + more) ≡ (e +ℤ pos 18) +ℤ pos more
finer_power e more = omega (arith, ints)

-- the counts on both sides are far
sides_far : (shift scale m e : ℤ) (u v more : ℕ) (w : ℤ) → pos 0 <ℤ scale
    → unsigned_abs scale < 10 ^ 36 → IsFloor (unsigned_abs m) (e +ℤ pos 18) u
    → IsCeiling (unsigned_abs m) (e +ℤ pos 18) v
    → IsFar (10 ^ 27) (placed shift scale (signed (int_lt m (pos 0)) u))
    → IsFar (10 ^ 27) (placed shift scale (signed (int_lt m (pos 0)) v))
    → IsCount (18 + more) m e w
    → IsFar (10 ^ 27 * 10 ^ more) ((w -ℤ shift *ℤ pos (10 ^ more)) *ℤ scale)
sides_far shift scale m e u v more w up small low high h i count =
    let n = unsigned_abs m in
    let k = e +ℤ pos 18 in
    let l = e +ℤ pos (18 + more) in
    let is = shifted-abs m l w count in
    enclosed_far (int_lt m (pos 0)) shift scale w (10 ^ more) u v (pow_some more)
    (omega (arith, ints, up)) small (count_sign m l w count)
    (floor_scaled n k l more u (unsigned_abs w) (finer_power e more) low is)
    (ceiling_scaled n k l more v (unsigned_abs w) (finer_power e more) high is)
    (floor_ceiling n k u v low high) (sides_near n k u v low high) h i

-- a number past the limit of counts is far, whatever the shift and the scale
large_far : (shift scale m e : ℤ) (u more : ℕ) (w : ℤ) → unsigned_abs shift < 10 ^ 36
    → pos 0 <ℤ scale → IsFloor (unsigned_abs m) (e +ℤ pos 18) u → 10 ^ 37 ≤ u
    → IsCount (18 + more) m e w
    → IsFar (10 ^ 27 * 10 ^ more) ((w -ℤ shift *ℤ pos (10 ^ more)) *ℤ scale)
large_far shift scale m e u more w near up low large count =
    let p = 10 ^ more in
    let l = e +ℤ pos (18 + more) in
    let above = floor_scaled (unsigned_abs m) (e +ℤ pos 18) l more u (unsigned_abs w)
    (finer_power e more) low (shifted-abs m l w count) in
    let past = mul-le-mul_right {m = 10 ^ 37} {n = u} p large in
    let t = shift *ℤ pos p in
    let moved : unsigned_abs t ≤ 10 ^ 36 * p =
    omega (
      arith,
      unsigned_abs-mul shift (pos p),
      mul-le-mul_right {m = unsigned_abs shift} {n = 10 ^ 36} p (omega (arith, near)),
    ) in
    let d = w -ℤ t in
    let left : unsigned_abs w ≤ unsigned_abs d + unsigned_abs t = grind (arith, ints) in
    let some : 1 ≤ unsigned_abs scale = omega (arith, ints, up) in
    omega (
      arith,
      above,
      past,
      moved,
      left,
      unsigned_abs-mul d scale,
      mul-le-mul_left {m = 1} {n = unsigned_abs scale} (unsigned_abs d) some,
    )

-- ---- of a text

places_far : (rounding : Rounding) (shift scale m e : ℤ) (more : ℕ) (w : ℤ)
    → unsigned_abs shift < 10 ^ 36 → pos 0 <ℤ scale → unsigned_abs scale < 10 ^ 36
    → Places shift scale rounding m e (Err OutOfGrid) → IsCount (18 + more) m e w
    → IsFar (10 ^ 27 * 10 ^ more) ((w -ℤ shift *ℤ pos (10 ^ more)) *ℤ scale)
places_far Exact shift scale m e more w near up small (inl h) count =
    let is = shifted-abs m (e +ℤ pos 18) h.0 h.1.0 in
    large_far shift scale m e (unsigned_abs h.0) more w near up
    (count_floor (unsigned_abs m) (e +ℤ pos 18) (unsigned_abs h.0) is) h.1.1 count
places_far Exact shift scale m e more w near up small (inr h) count =
    let u = h.0 in
    let is = shifted-abs m (e +ℤ pos 18) u h.1.0.0 in
    let far = subst (λ (z : ℤ). IsFar (10 ^ 27) (placed shift scale z))
    (count_sign m (e +ℤ pos 18) u h.1.0.0) (beyond_far (placed shift scale u) h.1.1) in
    sides_far shift scale m e (unsigned_abs u) (unsigned_abs u) more w up small
    (count_floor (unsigned_abs m) (e +ℤ pos 18) (unsigned_abs u) is)
    (count_ceiling (unsigned_abs m) (e +ℤ pos 18) (unsigned_abs u) is) far far count
places_far Nearest shift scale m e more w near up small (inl h) count =
    large_far shift scale m e h.0 more w near up h.1.0 h.1.1 count
places_far Nearest shift scale m e more w near up small (inr h) count =
    let s = h.1.0.0 in
    let is = h.1.0.1.1 in
    let P : ℤ → Type 0 = λ z. IsFar (10 ^ 27) (placed shift scale z) in
    sides_far shift scale m e s.0 s.1 more w up small h.1.0.1.0.0 h.1.0.1.0.1
    (subst P is.0 (beyond_far (placed shift scale h.0.0) h.1.1.0))
    (subst P is.1 (beyond_far (placed shift scale h.0.1) h.1.1.1)) count

pub text_off_grid : (shift scale : ℤ) (rounding : Rounding) (text : List ℕ)
    → unsigned_abs shift < 10 ^ 36 → pos 0 <ℤ scale → unsigned_abs scale < 10 ^ 36
    → PlacesText shift scale rounding text (Err OutOfGrid) → IsOffGrid shift scale text
text_off_grid shift scale rounding text near up small (inl h) = absurd h
text_off_grid shift scale rounding text near up small (inr h) = λ g n c.
    let same = means_once text h.0.0 h.0.1 n.0 n.1.0 h.1.0.1 n.1.1.0 in
    let first = subst (λ (x : ℤ). Places shift scale rounding x h.0.1 (Err OutOfGrid)) same.0 h.1.1 in
    let places = subst (λ (x : ℤ). Places shift scale rounding n.0 x (Err OutOfGrid)) same.1 first in
    let more = n.1.1.1.0 in
    let w = n.1.1.1.1.0 in
    let p = 10 ^ more in
    not_far (10 ^ 27 * p) ((w -ℤ shift *ℤ pos p) *ℤ scale) g
    (omega (arith, pow_some more)) n.1.1.1.1.1.1 c
    (places_far rounding shift scale n.0 n.1.0 more w near up small places n.1.1.1.1.1.0)

pub shift_small : (axis : Axis) (s : Shift) → unsigned_abs (shift_of axis s) < 10 ^ 36
shift_small Easting s = s.easting_in
shift_small Northing s = s.northing_in
shift_small Height s = lit< tt
