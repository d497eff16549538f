-- A walk along the edges of a list of positions.
use Rattle.std.specs.Prelude.{ℕ, suc, ◌+◌, ◌-◌, ◌<◌, ◌≤◌, ◌≡◌, List, [], ◌∷◌, length, drop, get_or, refl, pos, ◌+ℤ◌}
use Rattle.std.proofs.Common.{sym, ◌∙◌, ap, arith, drop-cons, length-drop}
use Rattle.std.proofs.lemmas.List.{get_or_read, get_or-map, length-map}
use Rattle.streetmap_grid.specs.declared.position.Position.{Position}
use Rattle.streetmap_grid.specs.Values.{PositionValue}
use Rattle.streetmap_grid.specs.PositionViews.{position_value, positions_value}
use Rattle.streetmap_grid.specs.Edges.{edges}
use Rattle.streetmap_grid.specs.Ring.{edge_area, edges_area, double_area}

edges_more : (ps : List PositionValue) (k : ℕ) (d : PositionValue) → k + 1 < length ps → edges (drop k ps) ≡ (get_or ps k d, get_or ps (k + 1) d) ∷ edges (drop (k + 1) ps)
edges_more ps k d h =
    let h0 : k < length ps = omega arith in
    let e0 : drop k ps ≡ get_or ps k d ∷ drop (suc k) ps = drop-cons ps k d h0 in
    let e1 : drop (k + 1) ps ≡ get_or ps (k + 1) d ∷ drop (suc (k + 1)) ps = drop-cons ps (k + 1) d h in
    let s : suc k ≡ k + 1 = omega arith in
    ap edges (e0 ∙ ap (λ (n : ℕ). get_or ps k d ∷ drop n ps) s ∙ ap (λ (qs : List PositionValue). get_or ps k d ∷ qs) e1) ∙ ap (λ (qs : List PositionValue). (get_or ps k d, get_or ps (k + 1) d) ∷ edges qs) (sym e1)

short : (qs : List PositionValue) → length qs ≤ 1 → edges qs ≡ []
short [] h = refl
short (a ∷ []) h = refl
short (a ∷ (b ∷ qs)) h = absurd (omega arith)

edges_done : (ps : List PositionValue) (k : ℕ) → length ps ≤ k + 1 → edges (drop k ps) ≡ []
edges_done ps k h = short (drop k ps) (omega (arith, length-drop k ps))

edges_step : (ps : List PositionValue) (i : ℕ) (d : PositionValue) → 1 ≤ i → i < length ps → edges (drop (i - 1) ps) ≡ (get_or ps (i - 1) d, get_or ps i d) ∷ edges (drop (i + 1 - 1) ps)
edges_step ps i d low h =
    let s : i - 1 + 1 ≡ i = omega arith in
    let t : i - 1 + 1 ≡ i + 1 - 1 = omega arith in
    edges_more ps (i - 1) d (omega arith) ∙ ap (λ (n : ℕ). (get_or ps (i - 1) d, get_or ps n d) ∷ edges (drop (i - 1 + 1) ps)) s ∙ ap (λ (n : ℕ). (get_or ps (i - 1) d, get_or ps i d) ∷ edges (drop n ps)) t

-- by two neighbours
plain_edges_at : (ps : List PositionValue) (i : ℕ) (a b : PositionValue) → 1 ≤ i → i < length ps → a ≡ get_or ps (i - 1) a → b ≡ get_or ps i b → edges (drop (i - 1) ps) ≡ (a, b) ∷ edges (drop (i + 1 - 1) ps)
plain_edges_at ps i a b low h ea eb =
    let e : a ≡ get_or ps (i - 1) b = get_or_read ps (i - 1) a (omega arith) ea b in
    edges_step ps i b low h ∙ ap (λ (p : PositionValue). (p, get_or ps i b) ∷ edges (drop (i + 1 - 1) ps)) (sym e) ∙ ap (λ (p : PositionValue). (a, p) ∷ edges (drop (i + 1 - 1) ps)) (sym eb)

-- a loop from 1 on, by the two positions that it read: one edge, and those that are left
pub edges_at : (ps : List Position) (i : ℕ) (a b : Position) → 1 ≤ i → i < length ps → a ≡ get_or ps (i - 1) a → b ≡ get_or ps i b → edges (drop (i - 1) (positions_value ps)) ≡ (position_value a, position_value b) ∷ edges (drop (i + 1 - 1) (positions_value ps))
edges_at ps i a b low h ea eb =
    let n : length (positions_value ps) ≡ length ps = length-map ps position_value in
    let before : i - 1 < length ps = omega arith in
    plain_edges_at (positions_value ps) i (position_value a) (position_value b) low (omega arith)
    (ap position_value ea ∙ sym (get_or-map position_value ps (i - 1) a (position_value a) before))
    (ap position_value eb ∙ sym (get_or-map position_value ps i b (position_value b) h))

-- no edge is left when the loop ends
pub edges_left : (ps : List Position) (i : ℕ) → length ps ≤ i → edges (drop (i - 1) (positions_value ps)) ≡ []
edges_left ps i h =
    let n : length (positions_value ps) ≡ length ps = length-map ps position_value in
    edges_done (positions_value ps) (i - 1) (omega arith)

pub area_at : (ps : List Position) (i : ℕ) (a b : Position) → 1 ≤ i → i < length ps → a ≡ get_or ps (i - 1) a → b ≡ get_or ps i b → double_area (drop (i - 1) (positions_value ps)) ≡ edge_area (position_value a, position_value b) +ℤ double_area (drop (i + 1 - 1) (positions_value ps))
area_at ps i a b low h ea eb = ap edges_area (edges_at ps i a b low h ea eb)

pub area_left : (ps : List Position) (i : ℕ) → length ps ≤ i → double_area (drop (i - 1) (positions_value ps)) ≡ pos 0
area_left ps i h = ap edges_area (edges_left ps i h)
