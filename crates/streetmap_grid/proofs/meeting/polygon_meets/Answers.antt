use Rattle.std.proofs.Common.{inl, inr}
use Rattle.streetmap_grid.proofs.meeting.polygon_meets.Goals as goal

pub returns-then-some_ring_meets : goal.returns-then-some_ring_meets
returns-then-some_ring_meets c =
    let h = rw c.rings-rings.ensures at c.some_ring_meets.ensures in
    (λ t. inl (h.0 t), λ m. c.if-some_ring_meets.true)

pub returns-else-some_ring_meets : goal.returns-else-some_ring_meets
returns-else-some_ring_meets c =
    let h = rw c.rings-rings.ensures at c.some_ring_meets.ensures in
    let k = rw c.rings-rings.ensures at c.holds_corner.ensures in
    let f = c.if-some_ring_meets.false in
    (λ t. inr (k.0 t), λ m. elim m [ inl x ↦ (let t = h.1 x in cc) | inr x ↦ k.1 x ])
