-- What is rounded on both sides of a number is the nearest to the number itself.
use Rattle.std.proofs.Common.{◌≡◌, ℕ, suc, ◌+◌, ◌*◌, ◌^◌, ◌<◌, ◌≤◌, Bool, true, false, List, Result, Ok, Err, ℤ, pos, negsuc, ◌+ℤ◌, ◌-ℤ◌, ◌*ℤ◌, ◌≤ℤ◌, ◌<ℤ◌, refl, sym, ap, subst, ◌∙◌, arith}
use Rattle.std.specs.Prelude.{unsigned_abs, int_lt, IfOk}
use Rattle.std.proofs.lemmas.Int.{ints, unsigned_abs-mul}
use Rattle.std.proofs.Math.Nat.{mul-le-mul_right}
use Rattle.streetmap_decimal.specs.declared.fault.DecimalFault.{DecimalFault}
use Rattle.streetmap_decimal.specs.declared.rounding.Rounding.{Rounding}
use Rattle.streetmap_decimal.specs.declared.rounding.Rounding.TheVariants.{Exact, Nearest}
use Rattle.streetmap_decimal.specs.NumberText.{signed}
use Rattle.streetmap_decimal.specs.Decimal.{IsCount, IsShifted, IsFloor, IsCeiling}
use Rattle.streetmap_decimal.specs.Grid.{IsNearestOf, IsNearest, placed, Places, PlacesText}
use Rattle.streetmap_decimal.specs.Nearest.{IsNearestTo, IsNearestToText}
use Rattle.streetmap_decimal.proofs.Powers.{pow_some, nat_cancel}
use Rattle.streetmap_decimal.proofs.Signs.{sign_of, signed-mul}
use Rattle.streetmap_decimal.proofs.Shifting.{shifted-signed}
use Rattle.streetmap_grid.proofs.Whole.{mul_mono-right, mul-assoc, mul-add, mul-neg}
use lib.IntN.{*ℤ_comm, neg_ℤ}

-- ---- in smaller units

pub sub-mul : (a z p : ℤ) → (a -ℤ z) *ℤ p ≡ a *ℤ p -ℤ z *ℤ p
sub-mul a z p =
    omega (
      arith,
      ints,
      mul-add p a (neg_ℤ z),
      mul-neg p z,
      *ℤ_comm (a -ℤ z) p,
      *ℤ_comm a p,
      *ℤ_comm z p,
    )

units-mul : (units p : ℕ) (g : ℤ) → g *ℤ pos (units * p) ≡ (g *ℤ pos units) *ℤ pos p
units-mul units p g = sym (mul-assoc g (pos units) (pos p))

apart_scaled : (units p : ℕ) (z g : ℤ) → unsigned_abs
    (g *ℤ pos (units * p) -ℤ z *ℤ pos p) ≡ unsigned_abs (g *ℤ pos units -ℤ z) * p
apart_scaled units p z g =
    ap (λ (x : ℤ). unsigned_abs (x -ℤ z *ℤ pos p)) (units-mul units p g)
    ∙ ap unsigned_abs (sym (sub-mul (g *ℤ pos units) z (pos p)))
    ∙ unsigned_abs-mul (g *ℤ pos units -ℤ z) (pos p)

pub scaled_nearest : (units p : ℕ) (z g : ℤ) → 1 ≤ p → IsNearestOf units z g
    → IsNearestOf (units * p) (z *ℤ pos p) g
scaled_nearest units p z g some h =
    let d = unsigned_abs (g *ℤ pos units -ℤ z) in
    let e = apart_scaled units p z g in
    let size : unsigned_abs (g *ℤ pos (units * p)) ≡ unsigned_abs (g *ℤ pos units) * p =
    ap unsigned_abs (units-mul units p g) ∙ unsigned_abs-mul (g *ℤ pos units) (pos p) in
    let low : unsigned_abs (z *ℤ pos p) ≡ unsigned_abs z * p = unsigned_abs-mul z (pos p) in (
      omega (arith, e, mul-le-mul_right {m = 2 * d} {n = units} p h.0),
      λ t.
          let half : 2 * d ≡ units = nat_cancel (2 * d) units p some (omega (arith, e, t)) in
          let less = h.1 half in
          omega (
            arith,
            size,
            low,
            some,
            mul-le-mul_right {m = unsigned_abs z + 1}
                {n = unsigned_abs (g *ℤ pos units)} p (omega (arith, less)),
          ),
    )

-- ---- between two numbers

on_line : (units : ℕ) (y z x a : ℤ) → y ≤ℤ x → x ≤ℤ z → 2 * unsigned_abs (a -ℤ y) ≤ units
    → (2 * unsigned_abs (a -ℤ y) ≡ units → unsigned_abs y < unsigned_abs a)
    → 2 * unsigned_abs (a -ℤ z) ≤ units
    → (2 * unsigned_abs (a -ℤ z) ≡ units → unsigned_abs z < unsigned_abs a)
    → (2 * unsigned_abs (a -ℤ x) ≤ units) ×
    (2 * unsigned_abs (a -ℤ x) ≡ units → unsigned_abs x < unsigned_abs a)
on_line units y z x a low high h i j k = (grind (arith, ints), λ t. grind (arith, ints))

pub between_nearest : (units : ℕ) (y z x g : ℤ) → y ≤ℤ x → x ≤ℤ z → IsNearestOf units y g
    → IsNearestOf units z g → IsNearestOf units x g
between_nearest units y z x g low high h i =
    on_line units y z x (g *ℤ pos units) low high h.0 h.1 i.0 i.1

-- ---- of a count

pub placed_scaled : (shift scale n : ℤ) (p : ℕ)
    → placed shift scale n *ℤ pos p ≡ (n *ℤ pos p -ℤ shift *ℤ pos p) *ℤ scale
placed_scaled shift scale n p =
    let d = n -ℤ shift in
    mul-assoc d scale (pos p) ∙ ap (λ (x : ℤ). d *ℤ x) (*ℤ_comm scale (pos p))
    ∙ sym (mul-assoc d (pos p) scale)
    ∙ ap (λ (x : ℤ). x *ℤ scale) (sub-mul n shift (pos p))

pub in_order : (t scale a b : ℤ) → pos 0 ≤ℤ scale → a ≤ℤ b → ((a -ℤ t) *ℤ scale) ≤ℤ ((b -ℤ t) *ℤ scale)
in_order t scale a b up h = mul_mono-right scale (a -ℤ t) (b -ℤ t) up (omega (arith, ints))

-- the counts y and z, and m between them in smaller units
finer : (shift scale m g : ℤ) (p : ℕ) (y z : ℤ) → 1 ≤ p → pos 0 ≤ℤ scale → (y *ℤ pos p) ≤ℤ m
    → m ≤ℤ (z *ℤ pos p) → IsNearest (placed shift scale y) g → IsNearest (placed shift scale z) g
    → IsNearestOf (10 ^ 27 * p) ((m -ℤ shift *ℤ pos p) *ℤ scale) g
finer shift scale m g p y z some up low high h i =
    let t = shift *ℤ pos p in
    let x = (m -ℤ t) *ℤ scale in
    let below = subst (λ (w : ℤ). w ≤ℤ x) (sym (placed_scaled shift scale y p))
    (in_order t scale (y *ℤ pos p) m up low) in
    let above = subst (λ (w : ℤ). x ≤ℤ w) (sym (placed_scaled shift scale z p))
    (in_order t scale m (z *ℤ pos p) up high) in
    between_nearest (10 ^ 27 * p) (placed shift scale y *ℤ pos p) (placed shift scale z *ℤ pos p) x
    g below above
    (scaled_nearest (10 ^ 27) p (placed shift scale y) g some h)
    (scaled_nearest (10 ^ 27) p (placed shift scale z) g some i)

enclosed : (b : Bool) (shift scale m g : ℤ) (p u v : ℕ) → 1 ≤ p → pos 0 ≤ℤ scale
    → m ≡ signed b (unsigned_abs m) → u * p ≤ unsigned_abs m → unsigned_abs m ≤ v * p
    → IsNearest (placed shift scale (signed b u)) g → IsNearest (placed shift scale (signed b v)) g
    → IsNearestOf (10 ^ 27 * p) ((m -ℤ shift *ℤ pos p) *ℤ scale) g
enclosed false shift scale m g p u v some up e low high h i =
    finer shift scale m g p (pos u) (pos v) some up (omega (arith, ints, signed-mul false u p, e))
    (omega (arith, ints, signed-mul false v p, e)) h i
enclosed true shift scale m g p u v some up e low high h i =
    finer shift scale m g p (signed true v) (signed true u) some up
    (omega (arith, ints, signed-mul true v p, e)) (omega (arith, ints, signed-mul true u p, e))
    i h

-- a whole count needs no smaller units
whole_exactly : (shift scale m e g u : ℤ) → IsCount 18 m e u → IsNearest (placed shift scale u) g
    → IsNearestTo shift scale m e g
whole_exactly shift scale m e g u count near =
    let same : shift ≡ shift *ℤ pos 1 = omega (arith, ints) in
    (0, (u, (count, subst (λ (t : ℤ). IsNearestOf (10 ^ 27) ((u -ℤ t) *ℤ scale) g) same near)))

following : (m e : ℤ) (j : ℕ) → e +ℤ pos 18 ≡ negsuc j → IsCount (18 + suc j) m e m
following m e j h =
    let none : pos 0 ≡ e +ℤ pos (18 + suc j) = omega (arith, ints, h) in
    subst (λ (k : ℤ). IsShifted m k m) none (omega (arith, ints))

by_power : (b : Bool) (shift scale m e g : ℤ) (k : ℤ) (u v : ℕ) → pos 0 ≤ℤ scale
    → m ≡ signed b (unsigned_abs m) → e +ℤ pos 18 ≡ k → IsFloor (unsigned_abs m) k u
    → IsCeiling (unsigned_abs m) k v → IsNearest (placed shift scale (signed b u)) g
    → IsNearest (placed shift scale (signed b v)) g
    → IsNearestTo shift scale m e g
by_power b shift scale m e g (pos j) u v up s is low high h i =
    whole_exactly shift scale m e g (signed b u)
    (subst (λ (k : ℤ). IsShifted m k (signed b u)) (sym is) (shifted-signed b m (pos j) u s low)) h
by_power b shift scale m e g (negsuc j) u v up s is low high h i = (
  suc j,
  (
    m,
    (
      following m e j is,
      enclosed b shift scale m g (10 ^ suc j) u v (pow_some (suc j)) up
          s low.0 high.0 h i,
    ),
  ),
)

places_nearest : (rounding : Rounding) (shift scale m e g : ℤ) → pos 0 ≤ℤ scale
    → Places shift scale rounding m e (Ok g) → IsNearestTo shift scale m e g
places_nearest Exact shift scale m e g up h = whole_exactly shift scale m e g h.0 h.1.0.0 h.1.1.0.0
places_nearest Nearest shift scale m e g up h =
    let b = int_lt m (pos 0) in
    let s = h.1.0.0 in
    let is = h.1.0.1.1 in
    by_power b shift scale m e g (e +ℤ pos 18) s.0 s.1 up (sign_of m) refl h.1.0.1.0.0 h.1.0.1.0.1
    (subst (λ (z : ℤ). IsNearest (placed shift scale z) g) is.0 h.1.1.0.0)
    (subst (λ (z : ℤ). IsNearest (placed shift scale z) g) is.1 h.1.1.1.0)

pub text_nearest : (shift scale : ℤ) (rounding : Rounding) (text : List ℕ) (g : ℤ) → pos 0 ≤ℤ scale
    → PlacesText shift scale rounding text (Ok g) → IsNearestToText shift scale text g
text_nearest shift scale rounding text g up h =
    (h.0.0, (h.0.1, (h.1.0.1, places_nearest rounding shift scale h.0.0 h.0.1 g up h.1.1)))

pub if_nearest : (shift scale : ℤ) (rounding : Rounding) (text : List ℕ) (r : Result ℤ DecimalFault)
    → pos 0 <ℤ scale → PlacesText shift scale rounding text r
    → IfOk r (λ g. IsNearestToText shift scale text g)
if_nearest shift scale rounding text (Ok g) up h =
    text_nearest shift scale rounding text g (omega (arith, ints, up)) h
if_nearest shift scale rounding text (Err f) up h = tt
