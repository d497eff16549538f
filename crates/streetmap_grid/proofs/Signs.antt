-- The test of a segment by signs is true exactly if some fraction of it lies in the box.
use Rattle.std.specs.Prelude.{ℤ, pos, neg_ℤ, ◌-ℤ◌, ◌*ℤ◌, ◌<ℤ◌, ◌≤ℤ◌, int_le, ◌≡◌}
use Rattle.std.specs.Bool.{Decides}
use Rattle.std.specs.List.{list_any}
use Rattle.std.specs.Int.{int_max, int_min}
use Rattle.std.proofs.Common.{arith, inl, inr}
use Rattle.std.proofs.lemmas.Bool.Decides.{Decides-and, Decides-like}
use Rattle.std.proofs.lemmas.Int.{ints, clamps, by_lt_z}
use lib.IntN.{*ℤ_comm}
use Rattle.streetmap_grid.specs.Values.{PositionValue, BoxValue}
use Rattle.streetmap_grid.specs.Some.{SomeOf}
use Rattle.streetmap_grid.specs.Crossings.{side}
use Rattle.streetmap_grid.specs.Meeting.{IsWithinAt, SegmentMeets, segment_meets, reaches, corners}
use Rattle.streetmap_grid.specs.Slab.{IsReachedAt, AreBothReached}
use Rattle.streetmap_grid.proofs.Whole.{mul_mono, mul-neg}
use Rattle.streetmap_grid.proofs.Fractions.{IsCrossed, reach-in, reach-out, rising-in, rising-out, falling-in, falling-out, neg_right}
use Rattle.streetmap_grid.proofs.Booleans.{le_true, true_le}
use Rattle.streetmap_grid.proofs.Elements.{some_decides}

pub le_decides : (a b : ℤ) → Decides (int_le a b) (a ≤ℤ b)
le_decides a b = (le_true a b, true_le a b)

-- ---- the test as a fact
abbrev pub Reaches : (a b low high : ℤ) → Type 0
Reaches a b low high = (low ≤ℤ int_max a b) × (int_min a b ≤ℤ high)

abbrev pub Signs : (a b : PositionValue) → BoxValue → Type 0
Signs a b g =
    Reaches a.x b.x g.x0 g.x1
    × (Reaches a.y b.y g.y0 g.y1
    × (SomeOf (λ c. pos 0 ≤ℤ side a b c.0 c.1) (corners g)
    × SomeOf (λ c. side a b c.0 c.1 ≤ℤ pos 0) (corners g)))

reaches_decides : (a b low high : ℤ) → Decides (reaches a b low high) (Reaches a b low high)
reaches_decides a b low high = Decides-and (int_le low (int_max a b)) (int_le (int_min a b) high) (le_decides low (int_max a b)) (le_decides (int_min a b) high)

signs_decides : (a b : PositionValue) (g : BoxValue) → Decides (segment_meets a b g) (Signs a b g)
unfolding segment_meets
signs_decides a b g =
    Decides-and (reaches a.x b.x g.x0 g.x1) _ (reaches_decides a.x b.x g.x0 g.x1)
    (Decides-and (reaches a.y b.y g.y0 g.y1) _ (reaches_decides a.y b.y g.y0 g.y1)
    (Decides-and (list_any (λ c. int_le (pos 0) (side a b c.0 c.1)) (corners g)) (list_any (λ c. int_le (side a b c.0 c.1) (pos 0)) (corners g))
    (some_decides (λ c. int_le (pos 0) (side a b c.0 c.1)) (λ c. pos 0 ≤ℤ side a b c.0 c.1) (λ c. le_decides (pos 0) (side a b c.0 c.1)) (corners g))
    (some_decides (λ c. int_le (side a b c.0 c.1) (pos 0)) (λ c. side a b c.0 c.1 ≤ℤ pos 0) (λ c. le_decides (side a b c.0 c.1) (pos 0)) (corners g))))

-- ---- the side of a point that moves
grow : (a b c : ℤ) → pos 0 ≤ℤ a → b ≤ℤ c → (a *ℤ b) ≤ℤ (a *ℤ c)
grow a b c h k = mul_mono a b c h k

fall : (a b c : ℤ) → a ≤ℤ pos 0 → b ≤ℤ c → (a *ℤ c) ≤ℤ (a *ℤ b)
fall a b c h k =
    let z : pos 0 ≤ℤ neg_ℤ a = omega (arith, ints) in
    omega (arith, ints, mul_mono (neg_ℤ a) b c z k, *ℤ_comm (neg_ℤ a) b, *ℤ_comm (neg_ℤ a) c, mul-neg b a, mul-neg c a, *ℤ_comm a b, *ℤ_comm a c)

grow_right : (a b c : ℤ) → pos 0 ≤ℤ a → b ≤ℤ c → (b *ℤ a) ≤ℤ (c *ℤ a)
grow_right a b c h k = omega (arith, ints, grow a b c h k, *ℤ_comm a b, *ℤ_comm a c)

fall_right : (a b c : ℤ) → a ≤ℤ pos 0 → b ≤ℤ c → (c *ℤ a) ≤ℤ (b *ℤ a)
fall_right a b c h k = omega (arith, ints, fall a b c h k, *ℤ_comm a b, *ℤ_comm a c)

-- some corner of a box, as a point of it
corner_of : (g : BoxValue) (P : ℤ → ℤ → Type 0) (Q : Type 0) → g.x0 ≤ℤ g.x1 → g.y0 ≤ℤ g.y1 → ((x y : ℤ) → g.x0 ≤ℤ x → x ≤ℤ g.x1 → g.y0 ≤ℤ y → y ≤ℤ g.y1 → P x y → Q) → SomeOf (λ c. P c.0 c.1) (corners g) → Q
corner_of g P Q w t f (inl h) = f g.x0 g.y0 (omega (arith, ints)) w (omega (arith, ints)) t h
corner_of g P Q w t f (inr (inl h)) = f g.x1 g.y0 w (omega (arith, ints)) (omega (arith, ints)) t h
corner_of g P Q w t f (inr (inr (inl h))) = f g.x1 g.y1 w (omega (arith, ints)) t (omega (arith, ints)) h
corner_of g P Q w t f (inr (inr (inr (inl h)))) = f g.x0 g.y1 (omega (arith, ints)) w t (omega (arith, ints)) h
corner_of g P Q w t f (inr (inr (inr (inr h)))) = absurd h

-- ---- the reflected products are those of the side, or their negations
neg_left : (a b p : ℤ) → (a -ℤ b) *ℤ p ≡ neg_ℤ ((b -ℤ a) *ℤ p)
neg_left a b p = omega (arith, ints, *ℤ_comm (a -ℤ b) p, *ℤ_comm (b -ℤ a) p, neg_right p a b)

-- ---- the four directions of a segment
-- to the east and north
east_north : (a b : PositionValue) (g : BoxValue) → g.x0 ≤ℤ g.x1 → g.y0 ≤ℤ g.y1 → a.x ≤ℤ b.x → a.y ≤ℤ b.y → Signs a b g → AreBothReached (g.x0 -ℤ a.x) (g.x1 -ℤ a.x) (b.x -ℤ a.x) (g.y0 -ℤ a.y) (g.y1 -ℤ a.y) (b.y -ℤ a.y)
east_north a b g w t hx hy s =
    let dx : pos 0 ≤ℤ (b.x -ℤ a.x) = omega (arith, ints) in
    let dy : pos 0 ≤ℤ (b.y -ℤ a.y) = omega (arith, ints) in
    let high : pos 0 ≤ℤ side a b g.x0 g.y1 =
    corner_of g (λ x y. pos 0 ≤ℤ side a b x y) (pos 0 ≤ℤ side a b g.x0 g.y1) w t
    (λ x y x0 x1 y0 y1 h. omega (arith, ints, h, grow (b.x -ℤ a.x) (y -ℤ a.y) (g.y1 -ℤ a.y) dx (omega (arith, ints)), grow_right (b.y -ℤ a.y) (g.x0 -ℤ a.x) (x -ℤ a.x) dy (omega (arith, ints)))) s.1.1.0 in
    let low : side a b g.x1 g.y0 ≤ℤ pos 0 =
    corner_of g (λ x y. side a b x y ≤ℤ pos 0) (side a b g.x1 g.y0 ≤ℤ pos 0) w t
    (λ x y x0 x1 y0 y1 h. omega (arith, ints, h, grow (b.x -ℤ a.x) (g.y0 -ℤ a.y) (y -ℤ a.y) dx (omega (arith, ints)), grow_right (b.y -ℤ a.y) (x -ℤ a.x) (g.x1 -ℤ a.x) dy (omega (arith, ints)))) s.1.1.1 in (
      omega (arith, ints, clamps, s.0),
      omega (arith, ints, clamps, s.0),
      omega (arith, ints, clamps, s.1.0),
      omega (arith, ints, clamps, s.1.0),
      omega (arith, ints, high, *ℤ_comm (b.x -ℤ a.x) (g.y1 -ℤ a.y)),
      omega (arith, ints, low, *ℤ_comm (b.x -ℤ a.x) (g.y0 -ℤ a.y)),
    )

east_north_back : (a b : PositionValue) (g : BoxValue) → a.x ≤ℤ b.x → a.y ≤ℤ b.y → AreBothReached (g.x0 -ℤ a.x) (g.x1 -ℤ a.x) (b.x -ℤ a.x) (g.y0 -ℤ a.y) (g.y1 -ℤ a.y) (b.y -ℤ a.y) → Signs a b g
east_north_back a b g hx hy r =
    let high : pos 0 ≤ℤ side a b g.x0 g.y1 = omega (arith, ints, r.4, *ℤ_comm (b.x -ℤ a.x) (g.y1 -ℤ a.y)) in
    let low : side a b g.x1 g.y0 ≤ℤ pos 0 = omega (arith, ints, r.5, *ℤ_comm (b.x -ℤ a.x) (g.y0 -ℤ a.y)) in (
      (omega (arith, ints, clamps, r.1), omega (arith, ints, clamps, r.0)),
      (
        (omega (arith, ints, clamps, r.3), omega (arith, ints, clamps, r.2)),
        (inr (inr (inr (inl high))), inr (inl low)),
      ),
    )

-- to the east and south
east_south : (a b : PositionValue) (g : BoxValue) → g.x0 ≤ℤ g.x1 → g.y0 ≤ℤ g.y1 → a.x ≤ℤ b.x → b.y ≤ℤ a.y → Signs a b g → AreBothReached (g.x0 -ℤ a.x) (g.x1 -ℤ a.x) (b.x -ℤ a.x) (a.y -ℤ g.y1) (a.y -ℤ g.y0) (a.y -ℤ b.y)
east_south a b g w t hx hy s =
    let dx : pos 0 ≤ℤ (b.x -ℤ a.x) = omega (arith, ints) in
    let dy : (b.y -ℤ a.y) ≤ℤ pos 0 = omega (arith, ints) in
    let high : pos 0 ≤ℤ side a b g.x1 g.y1 =
    corner_of g (λ x y. pos 0 ≤ℤ side a b x y) (pos 0 ≤ℤ side a b g.x1 g.y1) w t
    (λ x y x0 x1 y0 y1 h. omega (arith, ints, h, grow (b.x -ℤ a.x) (y -ℤ a.y) (g.y1 -ℤ a.y) dx (omega (arith, ints)), fall_right (b.y -ℤ a.y) (x -ℤ a.x) (g.x1 -ℤ a.x) dy (omega (arith, ints)))) s.1.1.0 in
    let low : side a b g.x0 g.y0 ≤ℤ pos 0 =
    corner_of g (λ x y. side a b x y ≤ℤ pos 0) (side a b g.x0 g.y0 ≤ℤ pos 0) w t
    (λ x y x0 x1 y0 y1 h. omega (arith, ints, h, grow (b.x -ℤ a.x) (g.y0 -ℤ a.y) (y -ℤ a.y) dx (omega (arith, ints)), fall_right (b.y -ℤ a.y) (g.x0 -ℤ a.x) (x -ℤ a.x) dy (omega (arith, ints)))) s.1.1.1 in (
      omega (arith, ints, clamps, s.0),
      omega (arith, ints, clamps, s.0),
      omega (arith, ints, clamps, s.1.0),
      omega (arith, ints, clamps, s.1.0),
      omega (arith, ints, low, *ℤ_comm (b.x -ℤ a.x) (g.y0 -ℤ a.y), neg_right (g.x0 -ℤ a.x) a.y b.y, neg_left a.y g.y0 (b.x -ℤ a.x)),
      omega (arith, ints, high, *ℤ_comm (b.x -ℤ a.x) (g.y1 -ℤ a.y), neg_right (g.x1 -ℤ a.x) a.y b.y, neg_left a.y g.y1 (b.x -ℤ a.x)),
    )

east_south_back : (a b : PositionValue) (g : BoxValue) → a.x ≤ℤ b.x → b.y ≤ℤ a.y → AreBothReached (g.x0 -ℤ a.x) (g.x1 -ℤ a.x) (b.x -ℤ a.x) (a.y -ℤ g.y1) (a.y -ℤ g.y0) (a.y -ℤ b.y) → Signs a b g
east_south_back a b g hx hy r =
    let high : pos 0 ≤ℤ side a b g.x1 g.y1 = omega (arith, ints, r.5, *ℤ_comm (b.x -ℤ a.x) (g.y1 -ℤ a.y), neg_right (g.x1 -ℤ a.x) a.y b.y, neg_left a.y g.y1 (b.x -ℤ a.x)) in
    let low : side a b g.x0 g.y0 ≤ℤ pos 0 = omega (arith, ints, r.4, *ℤ_comm (b.x -ℤ a.x) (g.y0 -ℤ a.y), neg_right (g.x0 -ℤ a.x) a.y b.y, neg_left a.y g.y0 (b.x -ℤ a.x)) in (
      (omega (arith, ints, clamps, r.1), omega (arith, ints, clamps, r.0)),
      (
        (omega (arith, ints, clamps, r.2), omega (arith, ints, clamps, r.3)),
        (inr (inr (inl high)), inl low),
      ),
    )

-- to the west and north
west_north : (a b : PositionValue) (g : BoxValue) → g.x0 ≤ℤ g.x1 → g.y0 ≤ℤ g.y1 → b.x ≤ℤ a.x → a.y ≤ℤ b.y → Signs a b g → AreBothReached (a.x -ℤ g.x1) (a.x -ℤ g.x0) (a.x -ℤ b.x) (g.y0 -ℤ a.y) (g.y1 -ℤ a.y) (b.y -ℤ a.y)
west_north a b g w t hx hy s =
    let dx : (b.x -ℤ a.x) ≤ℤ pos 0 = omega (arith, ints) in
    let dy : pos 0 ≤ℤ (b.y -ℤ a.y) = omega (arith, ints) in
    let high : pos 0 ≤ℤ side a b g.x0 g.y0 =
    corner_of g (λ x y. pos 0 ≤ℤ side a b x y) (pos 0 ≤ℤ side a b g.x0 g.y0) w t
    (λ x y x0 x1 y0 y1 h. omega (arith, ints, h, fall (b.x -ℤ a.x) (g.y0 -ℤ a.y) (y -ℤ a.y) dx (omega (arith, ints)), grow_right (b.y -ℤ a.y) (g.x0 -ℤ a.x) (x -ℤ a.x) dy (omega (arith, ints)))) s.1.1.0 in
    let low : side a b g.x1 g.y1 ≤ℤ pos 0 =
    corner_of g (λ x y. side a b x y ≤ℤ pos 0) (side a b g.x1 g.y1 ≤ℤ pos 0) w t
    (λ x y x0 x1 y0 y1 h. omega (arith, ints, h, fall (b.x -ℤ a.x) (y -ℤ a.y) (g.y1 -ℤ a.y) dx (omega (arith, ints)), grow_right (b.y -ℤ a.y) (x -ℤ a.x) (g.x1 -ℤ a.x) dy (omega (arith, ints)))) s.1.1.1 in (
      omega (arith, ints, clamps, s.0),
      omega (arith, ints, clamps, s.0),
      omega (arith, ints, clamps, s.1.0),
      omega (arith, ints, clamps, s.1.0),
      omega (arith, ints, low, *ℤ_comm (b.x -ℤ a.x) (g.y1 -ℤ a.y), neg_left a.x g.x1 (b.y -ℤ a.y), neg_right (g.y1 -ℤ a.y) a.x b.x),
      omega (arith, ints, high, *ℤ_comm (b.x -ℤ a.x) (g.y0 -ℤ a.y), neg_left a.x g.x0 (b.y -ℤ a.y), neg_right (g.y0 -ℤ a.y) a.x b.x),
    )

west_north_back : (a b : PositionValue) (g : BoxValue) → b.x ≤ℤ a.x → a.y ≤ℤ b.y → AreBothReached (a.x -ℤ g.x1) (a.x -ℤ g.x0) (a.x -ℤ b.x) (g.y0 -ℤ a.y) (g.y1 -ℤ a.y) (b.y -ℤ a.y) → Signs a b g
west_north_back a b g hx hy r =
    let high : pos 0 ≤ℤ side a b g.x0 g.y0 = omega (arith, ints, r.5, *ℤ_comm (b.x -ℤ a.x) (g.y0 -ℤ a.y), neg_left a.x g.x0 (b.y -ℤ a.y), neg_right (g.y0 -ℤ a.y) a.x b.x) in
    let low : side a b g.x1 g.y1 ≤ℤ pos 0 = omega (arith, ints, r.4, *ℤ_comm (b.x -ℤ a.x) (g.y1 -ℤ a.y), neg_left a.x g.x1 (b.y -ℤ a.y), neg_right (g.y1 -ℤ a.y) a.x b.x) in (
      (omega (arith, ints, clamps, r.0), omega (arith, ints, clamps, r.1)),
      (
        (omega (arith, ints, clamps, r.3), omega (arith, ints, clamps, r.2)),
        (inl high, inr (inr (inl low))),
      ),
    )

-- to the west and south
west_south : (a b : PositionValue) (g : BoxValue) → g.x0 ≤ℤ g.x1 → g.y0 ≤ℤ g.y1 → b.x ≤ℤ a.x → b.y ≤ℤ a.y → Signs a b g → AreBothReached (a.x -ℤ g.x1) (a.x -ℤ g.x0) (a.x -ℤ b.x) (a.y -ℤ g.y1) (a.y -ℤ g.y0) (a.y -ℤ b.y)
west_south a b g w t hx hy s =
    let dx : (b.x -ℤ a.x) ≤ℤ pos 0 = omega (arith, ints) in
    let dy : (b.y -ℤ a.y) ≤ℤ pos 0 = omega (arith, ints) in
    let high : pos 0 ≤ℤ side a b g.x1 g.y0 =
    corner_of g (λ x y. pos 0 ≤ℤ side a b x y) (pos 0 ≤ℤ side a b g.x1 g.y0) w t
    (λ x y x0 x1 y0 y1 h. omega (arith, ints, h, fall (b.x -ℤ a.x) (g.y0 -ℤ a.y) (y -ℤ a.y) dx (omega (arith, ints)), fall_right (b.y -ℤ a.y) (x -ℤ a.x) (g.x1 -ℤ a.x) dy (omega (arith, ints)))) s.1.1.0 in
    let low : side a b g.x0 g.y1 ≤ℤ pos 0 =
    corner_of g (λ x y. side a b x y ≤ℤ pos 0) (side a b g.x0 g.y1 ≤ℤ pos 0) w t
    (λ x y x0 x1 y0 y1 h. omega (arith, ints, h, fall (b.x -ℤ a.x) (y -ℤ a.y) (g.y1 -ℤ a.y) dx (omega (arith, ints)), fall_right (b.y -ℤ a.y) (g.x0 -ℤ a.x) (x -ℤ a.x) dy (omega (arith, ints)))) s.1.1.1 in (
      omega (arith, ints, clamps, s.0),
      omega (arith, ints, clamps, s.0),
      omega (arith, ints, clamps, s.1.0),
      omega (arith, ints, clamps, s.1.0),
      omega (arith, ints, high, *ℤ_comm (b.x -ℤ a.x) (g.y0 -ℤ a.y), neg_left a.x g.x1 (a.y -ℤ b.y), neg_right (g.x1 -ℤ a.x) a.y b.y, neg_left a.y g.y0 (a.x -ℤ b.x), neg_right (g.y0 -ℤ a.y) a.x b.x),
      omega (arith, ints, low, *ℤ_comm (b.x -ℤ a.x) (g.y1 -ℤ a.y), neg_left a.x g.x0 (a.y -ℤ b.y), neg_right (g.x0 -ℤ a.x) a.y b.y, neg_left a.y g.y1 (a.x -ℤ b.x), neg_right (g.y1 -ℤ a.y) a.x b.x),
    )

west_south_back : (a b : PositionValue) (g : BoxValue) → b.x ≤ℤ a.x → b.y ≤ℤ a.y → AreBothReached (a.x -ℤ g.x1) (a.x -ℤ g.x0) (a.x -ℤ b.x) (a.y -ℤ g.y1) (a.y -ℤ g.y0) (a.y -ℤ b.y) → Signs a b g
west_south_back a b g hx hy r =
    let high : pos 0 ≤ℤ side a b g.x1 g.y0 = omega (arith, ints, r.4, *ℤ_comm (b.x -ℤ a.x) (g.y0 -ℤ a.y), neg_left a.x g.x1 (a.y -ℤ b.y), neg_right (g.x1 -ℤ a.x) a.y b.y, neg_left a.y g.y0 (a.x -ℤ b.x), neg_right (g.y0 -ℤ a.y) a.x b.x) in
    let low : side a b g.x0 g.y1 ≤ℤ pos 0 = omega (arith, ints, r.5, *ℤ_comm (b.x -ℤ a.x) (g.y1 -ℤ a.y), neg_left a.x g.x0 (a.y -ℤ b.y), neg_right (g.x0 -ℤ a.x) a.y b.y, neg_left a.y g.y1 (a.x -ℤ b.x), neg_right (g.y1 -ℤ a.y) a.x b.x) in (
      (omega (arith, ints, clamps, r.0), omega (arith, ints, clamps, r.1)),
      (
        (omega (arith, ints, clamps, r.2), omega (arith, ints, clamps, r.3)),
        (inr (inl high), inr (inr (inr (inl low)))),
      ),
    )

-- ---- both axes at one fraction
crossed : (a b : PositionValue) (g : BoxValue) (n m d n' m' d' : ℤ) → ((p q : ℤ) → IsReachedAt p q n m d → IsWithinAt p q a.x b.x g.x0 g.x1) → ((p q : ℤ) → IsReachedAt p q n' m' d' → IsWithinAt p q a.y b.y g.y0 g.y1) → n ≤ℤ m → n' ≤ℤ m' → pos 0 ≤ℤ d → pos 0 ≤ℤ d' → AreBothReached n m d n' m' d' → SegmentMeets a b g
crossed a b g n m d n' m' d' x y nm nm' hd hd' r =
    let h : IsCrossed n m d n' m' d' = reach-in n m d n' m' d' nm nm' hd hd' r in
    (h.0, (h.1.0, (h.1.1.0, h.1.1.1, h.1.1.2, x h.0 h.1.0 h.1.1.3, y h.0 h.1.0 h.1.1.4)))

reached : (a b : PositionValue) (g : BoxValue) (n m d n' m' d' : ℤ) → ((p q : ℤ) → IsWithinAt p q a.x b.x g.x0 g.x1 → IsReachedAt p q n m d) → ((p q : ℤ) → IsWithinAt p q a.y b.y g.y0 g.y1 → IsReachedAt p q n' m' d') → pos 0 ≤ℤ d → pos 0 ≤ℤ d' → SegmentMeets a b g → AreBothReached n m d n' m' d'
reached a b g n m d n' m' d' x y hd hd' h =
    reach-out h.0 h.1.0 n m d n' m' d' hd hd' (h.1.1.0, h.1.1.1, h.1.1.2, x h.0 h.1.0 h.1.1.3, y h.0 h.1.0 h.1.1.4)

east_north_signs : (a b : PositionValue) (g : BoxValue) → g.x0 ≤ℤ g.x1 → g.y0 ≤ℤ g.y1 → a.x ≤ℤ b.x → a.y ≤ℤ b.y → Decides (segment_meets a b g) (SegmentMeets a b g)
east_north_signs a b g w t hx hy =
    Decides-like (segment_meets a b g)
    (λ s. crossed a b g (g.x0 -ℤ a.x) (g.x1 -ℤ a.x) (b.x -ℤ a.x) (g.y0 -ℤ a.y) (g.y1 -ℤ a.y) (b.y -ℤ a.y) (λ p q h. rising-in p q a.x b.x g.x0 g.x1 h) (λ p q h. rising-in p q a.y b.y g.y0 g.y1 h) (omega (arith, ints)) (omega (arith, ints)) (omega (arith, ints)) (omega (arith, ints)) (east_north a b g w t hx hy s))
    (λ h. east_north_back a b g hx hy (reached a b g (g.x0 -ℤ a.x) (g.x1 -ℤ a.x) (b.x -ℤ a.x) (g.y0 -ℤ a.y) (g.y1 -ℤ a.y) (b.y -ℤ a.y) (λ p q k. rising-out p q a.x b.x g.x0 g.x1 k) (λ p q k. rising-out p q a.y b.y g.y0 g.y1 k) (omega (arith, ints)) (omega (arith, ints)) h))
    (signs_decides a b g)

east_south_signs : (a b : PositionValue) (g : BoxValue) → g.x0 ≤ℤ g.x1 → g.y0 ≤ℤ g.y1 → a.x ≤ℤ b.x → b.y ≤ℤ a.y → Decides (segment_meets a b g) (SegmentMeets a b g)
east_south_signs a b g w t hx hy =
    Decides-like (segment_meets a b g)
    (λ s. crossed a b g (g.x0 -ℤ a.x) (g.x1 -ℤ a.x) (b.x -ℤ a.x) (a.y -ℤ g.y1) (a.y -ℤ g.y0) (a.y -ℤ b.y) (λ p q h. rising-in p q a.x b.x g.x0 g.x1 h) (λ p q h. falling-in p q a.y b.y g.y0 g.y1 h) (omega (arith, ints)) (omega (arith, ints)) (omega (arith, ints)) (omega (arith, ints)) (east_south a b g w t hx hy s))
    (λ h. east_south_back a b g hx hy (reached a b g (g.x0 -ℤ a.x) (g.x1 -ℤ a.x) (b.x -ℤ a.x) (a.y -ℤ g.y1) (a.y -ℤ g.y0) (a.y -ℤ b.y) (λ p q k. rising-out p q a.x b.x g.x0 g.x1 k) (λ p q k. falling-out p q a.y b.y g.y0 g.y1 k) (omega (arith, ints)) (omega (arith, ints)) h))
    (signs_decides a b g)

west_north_signs : (a b : PositionValue) (g : BoxValue) → g.x0 ≤ℤ g.x1 → g.y0 ≤ℤ g.y1 → b.x ≤ℤ a.x → a.y ≤ℤ b.y → Decides (segment_meets a b g) (SegmentMeets a b g)
west_north_signs a b g w t hx hy =
    Decides-like (segment_meets a b g)
    (λ s. crossed a b g (a.x -ℤ g.x1) (a.x -ℤ g.x0) (a.x -ℤ b.x) (g.y0 -ℤ a.y) (g.y1 -ℤ a.y) (b.y -ℤ a.y) (λ p q h. falling-in p q a.x b.x g.x0 g.x1 h) (λ p q h. rising-in p q a.y b.y g.y0 g.y1 h) (omega (arith, ints)) (omega (arith, ints)) (omega (arith, ints)) (omega (arith, ints)) (west_north a b g w t hx hy s))
    (λ h. west_north_back a b g hx hy (reached a b g (a.x -ℤ g.x1) (a.x -ℤ g.x0) (a.x -ℤ b.x) (g.y0 -ℤ a.y) (g.y1 -ℤ a.y) (b.y -ℤ a.y) (λ p q k. falling-out p q a.x b.x g.x0 g.x1 k) (λ p q k. rising-out p q a.y b.y g.y0 g.y1 k) (omega (arith, ints)) (omega (arith, ints)) h))
    (signs_decides a b g)

west_south_signs : (a b : PositionValue) (g : BoxValue) → g.x0 ≤ℤ g.x1 → g.y0 ≤ℤ g.y1 → b.x ≤ℤ a.x → b.y ≤ℤ a.y → Decides (segment_meets a b g) (SegmentMeets a b g)
west_south_signs a b g w t hx hy =
    Decides-like (segment_meets a b g)
    (λ s. crossed a b g (a.x -ℤ g.x1) (a.x -ℤ g.x0) (a.x -ℤ b.x) (a.y -ℤ g.y1) (a.y -ℤ g.y0) (a.y -ℤ b.y) (λ p q h. falling-in p q a.x b.x g.x0 g.x1 h) (λ p q h. falling-in p q a.y b.y g.y0 g.y1 h) (omega (arith, ints)) (omega (arith, ints)) (omega (arith, ints)) (omega (arith, ints)) (west_south a b g w t hx hy s))
    (λ h. west_south_back a b g hx hy (reached a b g (a.x -ℤ g.x1) (a.x -ℤ g.x0) (a.x -ℤ b.x) (a.y -ℤ g.y1) (a.y -ℤ g.y0) (a.y -ℤ b.y) (λ p q k. falling-out p q a.x b.x g.x0 g.x1 k) (λ p q k. falling-out p q a.y b.y g.y0 g.y1 k) (omega (arith, ints)) (omega (arith, ints)) h))
    (signs_decides a b g)

pub segment_decides : (a b : PositionValue) (g : BoxValue) → g.x0 ≤ℤ g.x1 → g.y0 ≤ℤ g.y1 → Decides (segment_meets a b g) (SegmentMeets a b g)
segment_decides a b g w t =
    by_lt_z b.x a.x
    (λ (x : b.x <ℤ a.x). by_lt_z b.y a.y
    (λ (y : b.y <ℤ a.y). west_south_signs a b g w t (omega (arith, ints)) (omega (arith, ints)))
    (λ (y : a.y ≤ℤ b.y). west_north_signs a b g w t (omega (arith, ints)) y))
    (λ (x : a.x ≤ℤ b.x). by_lt_z b.y a.y
    (λ (y : b.y <ℤ a.y). east_south_signs a b g w t x (omega (arith, ints)))
    (λ (y : a.y ≤ℤ b.y). east_north_signs a b g w t x y))
