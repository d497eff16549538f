-- A closed ring has an even number of edges with exactly one end above any northing.
use Rattle.std.specs.Prelude.{ℕ, ◌+◌, ◌*◌, ℤ, pos, ◌+ℤ◌, ◌-ℤ◌, ◌*ℤ◌, ◌≤ℤ◌, ◌<ℤ◌, Bool, true, false, cond, not, ◌&&◌, int_lt, ◌≡◌, List, [], ◌∷◌, refl, ⊤}
use Rattle.std.specs.List.{count_by, sum_by, AllByRecursion}
use Rattle.std.proofs.Common.{sym, ◌∙◌, ap, arith, ◌⊎◌, inl, inr}
use Rattle.std.proofs.lemmas.Int.{ints}
use Rattle.std.proofs.lemmas.List.Sums.{sum_by-cons}
use lib.IntN.{*ℤ_comm}
use Rattle.streetmap_grid.specs.Values.{PositionValue}
use Rattle.streetmap_grid.specs.Edges.{edges_from}
use Rattle.streetmap_grid.specs.Ring.{last_from}
use Rattle.streetmap_grid.specs.Crossings.{is_above, is_straddling, side, is_crossing, crossings}
use Rattle.streetmap_grid.proofs.Whole.{mul_nonneg, mul_pos, mul_sub}

abbrev pub IsEven : ℕ → Type 0
IsEven n = (k : ℕ) × (n ≡ 2 * k)

abbrev pub bit : Bool → ℕ
bit b = cond b 1 0

one_edge : (s t : Bool) → (k : ℕ) × (bit (cond s (not t) t) + bit s ≡ bit t + 2 * k)
one_edge true true = (0, omega arith)
one_edge true false = (1, omega arith)
one_edge false true = (0, omega arith)
one_edge false false = (0, omega arith)

pub straddles_even : (y : ℤ) (a : PositionValue) (bs : List PositionValue) → (k : ℕ) × (count_by (λ e. is_straddling y e.0 e.1) (edges_from a bs) + bit (is_above y a) ≡ bit (is_above y (last_from a bs)) + 2 * k)
straddles_even y a [] = (0, omega arith)
straddles_even y a (b ∷ bs) =
    let r = straddles_even y b bs in
    let o = one_edge (is_above y a) (is_above y b) in
    (r.0 + o.0, omega (arith, r.1, o.1, sum_by-cons (λ (e : PositionValue × PositionValue). cond (is_straddling y e.0 e.1) 1 0) (a, b) (edges_from b bs)))

-- ---- the point seen from an edge
turn : (x y ux uy vx vy : ℤ) → (vx -ℤ ux) *ℤ (y -ℤ uy) -ℤ (x -ℤ ux) *ℤ (vy -ℤ uy) ≡ (vx -ℤ x) *ℤ (y -ℤ uy) +ℤ (ux -ℤ x) *ℤ (vy -ℤ y)
turn x y ux uy vx vy =
    omega (arith, ints, mul_sub vx ux y uy, mul_sub x ux vy uy, mul_sub vx x y uy, mul_sub ux x vy y, *ℤ_comm x y)

east : (x y ux uy vx vy : ℤ) → uy ≤ℤ y → y <ℤ vy → x <ℤ ux → x <ℤ vx → int_lt (pos 0) ((vx -ℤ ux) *ℤ (y -ℤ uy) -ℤ (x -ℤ ux) *ℤ (vy -ℤ uy)) ≡ true
east x y ux uy vx vy lo hi l r =
    let s : pos 0 ≤ℤ (y -ℤ uy) = omega (arith, ints) in
    let t : pos 0 <ℤ (vy -ℤ y) = omega (arith, ints) in
    let m : pos 0 ≤ℤ (vx -ℤ x) = omega (arith, ints) in
    let n : pos 0 <ℤ (ux -ℤ x) = omega (arith, ints) in
    sym (omega (arith, ints, turn x y ux uy vx vy, mul_nonneg (vx -ℤ x) (y -ℤ uy) m s, mul_pos (ux -ℤ x) (vy -ℤ y) n t))

west : (x y ux uy vx vy : ℤ) → uy ≤ℤ y → y <ℤ vy → ux ≤ℤ x → vx ≤ℤ x → int_lt (pos 0) ((vx -ℤ ux) *ℤ (y -ℤ uy) -ℤ (x -ℤ ux) *ℤ (vy -ℤ uy)) ≡ false
west x y ux uy vx vy lo hi l r =
    let s : pos 0 ≤ℤ (y -ℤ uy) = omega (arith, ints) in
    let t : pos 0 ≤ℤ (vy -ℤ y) = omega (arith, ints) in
    let m : pos 0 ≤ℤ (x -ℤ vx) = omega (arith, ints) in
    let n : pos 0 ≤ℤ (x -ℤ ux) = omega (arith, ints) in
    sym (omega (arith, ints, turn x y ux uy vx vy, mul_nonneg (x -ℤ vx) (y -ℤ uy) m s, mul_nonneg (x -ℤ ux) (vy -ℤ y) n t, mul_sub vx x y uy, mul_sub ux x vy y, mul_sub x vx y uy, mul_sub x ux vy y))

-- ---- edges by what their ends are
as_straddling : (s t l r : Bool) → (s ≡ true → t ≡ false → l ≡ true) → (s ≡ false → t ≡ true → r ≡ true) → cond s (not t && l) (t && r) ≡ cond s (not t) t
as_straddling true true l r f g = refl
as_straddling true false l r f g = f refl refl
as_straddling false true l r f g = g refl refl
as_straddling false false l r f g = refl

as_none : (s t l r : Bool) → (s ≡ true → t ≡ false → l ≡ false) → (s ≡ false → t ≡ true → r ≡ false) → cond s (not t && l) (t && r) ≡ false
as_none true true l r f g = refl
as_none true false l r f g = f refl refl
as_none false true l r f g = g refl refl
as_none false false l r f g = refl

edge_east : (x y : ℤ) (a b : PositionValue) → x <ℤ a.x → x <ℤ b.x → is_crossing x y a b ≡ is_straddling y a b
edge_east x y a b l r =
    as_straddling (is_above y a) (is_above y b) (int_lt (pos 0) (side b a x y)) (int_lt (pos 0) (side a b x y))
    (λ p q. east x y b.x b.y a.x a.y (omega (arith, ints)) (omega (arith, ints)) r l)
    (λ p q. east x y a.x a.y b.x b.y (omega (arith, ints)) (omega (arith, ints)) l r)

edge_west : (x y : ℤ) (a b : PositionValue) → a.x ≤ℤ x → b.x ≤ℤ x → is_crossing x y a b ≡ false
edge_west x y a b l r =
    as_none (is_above y a) (is_above y b) (int_lt (pos 0) (side b a x y)) (int_lt (pos 0) (side a b x y))
    (λ p q. west x y b.x b.y a.x a.y (omega (arith, ints)) (omega (arith, ints)) r l)
    (λ p q. west x y a.x a.y b.x b.y (omega (arith, ints)) (omega (arith, ints)) l r)

edge_below : (x y : ℤ) (a b : PositionValue) → a.y ≤ℤ y → b.y ≤ℤ y → is_crossing x y a b ≡ false
edge_below x y a b l r =
    as_none (is_above y a) (is_above y b) (int_lt (pos 0) (side b a x y)) (int_lt (pos 0) (side a b x y))
    (λ p q. absurd (omega (arith, ints)))
    (λ p q. absurd (omega (arith, ints)))

edge_above : (x y : ℤ) (a b : PositionValue) → y <ℤ a.y → y <ℤ b.y → is_crossing x y a b ≡ false
edge_above x y a b l r =
    as_none (is_above y a) (is_above y b) (int_lt (pos 0) (side b a x y)) (int_lt (pos 0) (side a b x y))
    (λ p q. absurd (omega (arith, ints)))
    (λ p q. absurd (omega (arith, ints)))

-- ---- rings
count_same : (p q : PositionValue × PositionValue → Bool) (V : PositionValue → Type 0) → ((a b : PositionValue) → V a → V b → p (a, b) ≡ q (a, b)) → (a : PositionValue) (bs : List PositionValue) → V a → AllByRecursion V bs → count_by p (edges_from a bs) ≡ count_by q (edges_from a bs)
count_same p q V f a [] h hs = refl
count_same p q V f a (b ∷ bs) h hs =
    omega (arith, count_same p q V f b bs hs.0 hs.1, ap bit (f a b h hs.0), sum_by-cons (λ (e : PositionValue × PositionValue). cond (p e) 1 0) (a, b) (edges_from b bs), sum_by-cons (λ (e : PositionValue × PositionValue). cond (q e) 1 0) (a, b) (edges_from b bs))

count_none : (V : PositionValue → Type 0) (a : PositionValue) (bs : List PositionValue) → count_by (λ (e : PositionValue × PositionValue). false) (edges_from a bs) ≡ 0
count_none V a [] = refl
count_none V a (b ∷ bs) = omega (arith, count_none V b bs, sum_by-cons (λ (e : PositionValue × PositionValue). cond false 1 0) (a, b) (edges_from b bs))

-- the last position has the northing of the first
abbrev pub EndsLevel : List PositionValue → Type 0
EndsLevel [] = ⊤
EndsLevel (a ∷ bs) = (last_from a bs).y ≡ a.y

abbrev pub IsOutside : ℤ → ℤ → List PositionValue → Type 0
IsOutside x y ps =
    AllByRecursion (λ (p : PositionValue). x <ℤ p.x) ps
    ⊎ AllByRecursion (λ (p : PositionValue). p.x ≤ℤ x) ps
    ⊎ AllByRecursion (λ (p : PositionValue). p.y ≤ℤ y) ps
    ⊎ AllByRecursion (λ (p : PositionValue). y <ℤ p.y) ps

none_even : (x y : ℤ) (V : PositionValue → Type 0) → ((a b : PositionValue) → V a → V b → is_crossing x y a b ≡ false) → (a : PositionValue) (bs : List PositionValue) → V a → AllByRecursion V bs → IsEven (crossings x y (a ∷ bs))
none_even x y V f a bs h hs =
    (0, omega (arith, count_same (λ e. is_crossing x y e.0 e.1) (λ e. false) V f a bs h hs, count_none V a bs))

pub straddling_even : (y : ℤ) (a : PositionValue) (bs : List PositionValue) → (last_from a bs).y ≡ a.y → IsEven (count_by (λ e. is_straddling y e.0 e.1) (edges_from a bs))
straddling_even y a bs e =
    let s = straddles_even y a bs in
    let b : bit (is_above y (last_from a bs)) ≡ bit (is_above y a) = ap (λ (z : ℤ). bit (int_lt y z)) e in
    (s.0, omega (arith, s.1, b))

pub outside_even : (x y : ℤ) (ps : List PositionValue) → EndsLevel ps → IsOutside x y ps → IsEven (crossings x y ps)
outside_even x y [] e o = (0, refl)
outside_even x y (a ∷ bs) e (inl h) =
    let s = straddling_even y a bs e in
    (s.0, count_same (λ e. is_crossing x y e.0 e.1) (λ e. is_straddling y e.0 e.1) (λ (p : PositionValue). x <ℤ p.x) (edge_east x y) a bs h.0 h.1 ∙ s.1)
outside_even x y (a ∷ bs) e (inr (inl h)) = none_even x y (λ (p : PositionValue). p.x ≤ℤ x) (edge_west x y) a bs h.0 h.1
outside_even x y (a ∷ bs) e (inr (inr (inl h))) = none_even x y (λ (p : PositionValue). p.y ≤ℤ y) (edge_below x y) a bs h.0 h.1
outside_even x y (a ∷ bs) e (inr (inr (inr h))) = none_even x y (λ (p : PositionValue). y <ℤ p.y) (edge_above x y) a bs h.0 h.1

pub even-add : (m n : ℕ) → IsEven m → IsEven n → IsEven (m + n)
even-add m n h k = (h.0 + k.0, omega (arith, h.1, k.1))

-- ---- all rings of a polygon together
pub rings_even : {R : Type 0} (x y : ℤ) (at : R → List PositionValue) (rs : List R) → AllByRecursion (λ r. EndsLevel (at r)) rs → AllByRecursion (λ r. IsOutside x y (at r)) rs → IsEven (sum_by (λ r. crossings x y (at r)) rs)
rings_even x y at [] e o = (0, refl)
rings_even {R} x y at (r ∷ rs) e o =
    let h = even-add (crossings x y (at r)) (sum_by (λ r. crossings x y (at r)) rs) (outside_even x y (at r) e.0 o.0) (rings_even x y at rs e.1 o.1) in
    (h.0, sum_by-cons (λ r. crossings x y (at r)) r rs ∙ h.1)
