-- The fractions of a segment at which both reflected axes are reached.
use Rattle.std.specs.Prelude.{ℤ, pos, neg_ℤ, ◌+ℤ◌, ◌-ℤ◌, ◌*ℤ◌, ◌<ℤ◌, ◌≤ℤ◌, ◌≡◌}
use Rattle.std.proofs.Common.{sym, ap, ◌∙◌, arith}
use Rattle.std.proofs.lemmas.Int.{ints, by_lt_z}
use lib.IntN.{*ℤ_comm}
use Rattle.streetmap_grid.specs.Meeting.{IsWithinAt}
use Rattle.streetmap_grid.specs.Slab.{IsReachedAt, AreBothReached}
use Rattle.streetmap_grid.proofs.Whole.{mul-add, mul-neg, mul-assoc, mul_nonneg, mul_mono, mul_mono-right, mul_cancel}

-- ---- from a segment to one that starts at 0 and does not fall
pub blend : (p q a b : ℤ) → (q -ℤ p) *ℤ a +ℤ p *ℤ b ≡ q *ℤ a +ℤ p *ℤ (b -ℤ a)
blend p q a b =
    omega (arith, ints, *ℤ_comm (q -ℤ p) a, mul-add a q (neg_ℤ p), mul-neg a p, mul-add p b (neg_ℤ a), mul-neg p a)

pub rising-out : (p q a b lo hi : ℤ) → IsWithinAt p q a b lo hi → IsReachedAt p q (lo -ℤ a) (hi -ℤ a) (b -ℤ a)
rising-out p q a b lo hi h =
    omega (arith, ints, h.0, h.1, blend p q a b, mul-add q lo (neg_ℤ a), mul-add q hi (neg_ℤ a), mul-neg q a)

pub rising-in : (p q a b lo hi : ℤ) → IsReachedAt p q (lo -ℤ a) (hi -ℤ a) (b -ℤ a) → IsWithinAt p q a b lo hi
rising-in p q a b lo hi h =
    omega (arith, ints, h.0, h.1, blend p q a b, mul-add q lo (neg_ℤ a), mul-add q hi (neg_ℤ a), mul-neg q a)

pub neg_right : (p a b : ℤ) → p *ℤ (a -ℤ b) ≡ neg_ℤ (p *ℤ (b -ℤ a))
neg_right p a b = omega (arith, ints, mul-add p a (neg_ℤ b), mul-add p b (neg_ℤ a), mul-neg p a, mul-neg p b)

pub falling-out : (p q a b lo hi : ℤ) → IsWithinAt p q a b lo hi → IsReachedAt p q (a -ℤ hi) (a -ℤ lo) (a -ℤ b)
falling-out p q a b lo hi h =
    let r : IsReachedAt p q (lo -ℤ a) (hi -ℤ a) (b -ℤ a) = rising-out p q a b lo hi h in
    omega (arith, ints, r.0, r.1, neg_right p a b, neg_right q a hi, neg_right q a lo)

pub falling-in : (p q a b lo hi : ℤ) → IsReachedAt p q (a -ℤ hi) (a -ℤ lo) (a -ℤ b) → IsWithinAt p q a b lo hi
falling-in p q a b lo hi h =
    let r : IsReachedAt p q (lo -ℤ a) (hi -ℤ a) (b -ℤ a) =
    omega (arith, ints, h.0, h.1, neg_right p a b, neg_right q a hi, neg_right q a lo) in
    rising-in p q a b lo hi r

-- ---- two spans that are reached at one place
abbrev pub AreReachedAt : (p q n m d n' m' d' : ℤ) → Type 0
AreReachedAt p q n m d n' m' d' =
    (pos 1 ≤ℤ q) × (pos 0 ≤ℤ p) × (p ≤ℤ q) × IsReachedAt p q n m d × IsReachedAt p q n' m' d'

-- one corner: q n ≤ p d and p d' ≤ q m' give n d' ≤ m' d
corner : (p q n d m' d' : ℤ) → pos 1 ≤ℤ q → pos 0 ≤ℤ d → pos 0 ≤ℤ d' → (q *ℤ n) ≤ℤ (p *ℤ d) → (p *ℤ d') ≤ℤ (q *ℤ m') → (n *ℤ d') ≤ℤ (m' *ℤ d)
corner p q n d m' d' hq hd hd' k k' =
    let u : ((q *ℤ n) *ℤ d') ≤ℤ ((p *ℤ d) *ℤ d') = mul_mono-right d' (q *ℤ n) (p *ℤ d) hd' k in
    let v : ((p *ℤ d') *ℤ d) ≤ℤ ((q *ℤ m') *ℤ d) = mul_mono-right d (p *ℤ d') (q *ℤ m') hd k' in
    let e : (p *ℤ d) *ℤ d' ≡ (p *ℤ d') *ℤ d = mul-assoc p d d' ∙ ap (λ (z : ℤ). p *ℤ z) (*ℤ_comm d d') ∙ sym (mul-assoc p d' d) in
    let w : (q *ℤ (n *ℤ d')) ≤ℤ (q *ℤ (m' *ℤ d)) = omega (arith, ints, u, v, e, mul-assoc q n d', mul-assoc q m' d) in
    mul_cancel q (n *ℤ d') (m' *ℤ d) hq w

ends : (p q n m d : ℤ) → pos 1 ≤ℤ q → pos 0 ≤ℤ p → p ≤ℤ q → pos 0 ≤ℤ d → IsReachedAt p q n m d → (pos 0 ≤ℤ m) × (n ≤ℤ d)
ends p q n m d hq hp hpq hd h =
    let e : (p *ℤ d) ≤ℤ (q *ℤ d) = mul_mono-right d p q hd hpq in
    let z : pos 0 ≤ℤ (p *ℤ d) = mul_nonneg p d hp hd in
    let k : (q *ℤ pos 0) ≤ℤ (q *ℤ m) = omega (arith, ints, h.1, z) in
    let l : (q *ℤ n) ≤ℤ (q *ℤ d) = omega (arith, ints, h.0, e) in
    (mul_cancel q (pos 0) m hq k, mul_cancel q n d hq l)

pub reach-out : (p q n m d n' m' d' : ℤ) → pos 0 ≤ℤ d → pos 0 ≤ℤ d' → AreReachedAt p q n m d n' m' d' → AreBothReached n m d n' m' d'
reach-out p q n m d n' m' d' hd hd' h =
    let x : (pos 0 ≤ℤ m) × (n ≤ℤ d) = ends p q n m d h.0 h.1 h.2 hd h.3 in
    let y : (pos 0 ≤ℤ m') × (n' ≤ℤ d') = ends p q n' m' d' h.0 h.1 h.2 hd' h.4 in
    (x.0, x.1, y.0, y.1, corner p q n d m' d' h.0 hd hd' h.3.0 h.4.1, corner p q n' d' m d h.0 hd' hd h.4.0 h.3.1)

-- a common place of two spans
abbrev pub IsCrossed : (n m d n' m' d' : ℤ) → Type 0
IsCrossed n m d n' m' d' = (p : ℤ) × ((q : ℤ) × AreReachedAt p q n m d n' m' d')

-- at 0
at_start : (n m d n' m' d' : ℤ) → n ≤ℤ pos 0 → n' ≤ℤ pos 0 → pos 0 ≤ℤ m → pos 0 ≤ℤ m' → IsCrossed n m d n' m' d'
at_start n m d n' m' d' a b c e =
    (pos 0, (pos 1, omega (arith, ints)))

-- at the start of the first span, which is not before the start of the second
at_first : (n m d n' m' d' : ℤ) → pos 0 <ℤ n → n ≤ℤ m → n ≤ℤ d → (n *ℤ d') ≤ℤ (m' *ℤ d) → (n' *ℤ d) ≤ℤ (n *ℤ d') → IsCrossed n m d n' m' d'
at_first n m d n' m' d' hn hnm hnd h k =
    let hd : pos 0 ≤ℤ d = omega (arith, ints) in
    let e : (d *ℤ n) ≤ℤ (d *ℤ m) = mul_mono d n m hd hnm in
    (n, (d, omega (arith, ints, e, *ℤ_comm d n, *ℤ_comm d n', *ℤ_comm d m')))

swapped : (n m d n' m' d' : ℤ) → IsCrossed n' m' d' n m d → IsCrossed n m d n' m' d'
swapped n m d n' m' d' (p, (q, h)) = (p, (q, (h.0, h.1, h.2, h.4, h.3)))

pub reach-in : (n m d n' m' d' : ℤ) → n ≤ℤ m → n' ≤ℤ m' → pos 0 ≤ℤ d → pos 0 ≤ℤ d' → AreBothReached n m d n' m' d' → IsCrossed n m d n' m' d'
reach-in n m d n' m' d' hnm hnm' hd hd' r =
    by_lt_z (pos 0) n
    (λ (x : pos 0 <ℤ n). by_lt_z (pos 0) n'
    (λ (y : pos 0 <ℤ n'). by_lt_z (n *ℤ d') (n' *ℤ d)
    (λ (l : (n *ℤ d') <ℤ (n' *ℤ d)). swapped n m d n' m' d' (at_first n' m' d' n m d y hnm' r.3 r.5 (omega (arith, ints))))
    (λ (l : (n' *ℤ d) ≤ℤ (n *ℤ d')). at_first n m d n' m' d' x hnm r.1 r.4 l))
    (λ (y : n' ≤ℤ pos 0).
    let u : (n' *ℤ d) ≤ℤ (pos 0 *ℤ d) = mul_mono-right d n' (pos 0) hd y in
    let z : pos 0 ≤ℤ n = omega (arith, ints) in
    let v : pos 0 ≤ℤ (n *ℤ d') = mul_nonneg n d' z hd' in
    at_first n m d n' m' d' x hnm r.1 r.4 (omega (arith, ints, u, v))))
    (λ (x : n ≤ℤ pos 0). by_lt_z (pos 0) n'
    (λ (y : pos 0 <ℤ n').
    let u : (n *ℤ d') ≤ℤ (pos 0 *ℤ d') = mul_mono-right d' n (pos 0) hd' x in
    let z : pos 0 ≤ℤ n' = omega (arith, ints) in
    let v : pos 0 ≤ℤ (n' *ℤ d) = mul_nonneg n' d z hd in
    swapped n m d n' m' d' (at_first n' m' d' n m d y hnm' r.3 r.5 (omega (arith, ints, u, v))))
    (λ (y : n' ≤ℤ pos 0). at_start n m d n' m' d' x y r.0 r.2))
