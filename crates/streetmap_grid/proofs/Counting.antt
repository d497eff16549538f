-- One truth value in place of a count.
use Rattle.std.specs.Prelude.{ℕ, ◌+◌, ◌-◌, ◌<◌, ◌≤◌, ◌%◌, ◌≡◌, ℤ, Bool, cond, not, true, false, List, length, drop, get_or}
use Rattle.std.specs.List.{count_by}
use Rattle.std.proofs.Common.{sym, ◌∙◌, ap, arith}
use Rattle.std.proofs.lemmas.List.Sums.{sum_by-cons}
use Rattle.streetmap_grid.specs.declared.position.Position.{Position}
use Rattle.streetmap_grid.specs.Values.{PositionValue}
use Rattle.streetmap_grid.specs.PositionViews.{position_value, positions_value}
use Rattle.streetmap_grid.specs.Edges.{edges}
use Rattle.streetmap_grid.specs.Crossings.{is_crossing, crossings}
use Rattle.streetmap_grid.proofs.Walk.{edges_at, edges_left}

pub crossings_at : (x y : ℤ) (ps : List Position) (i : ℕ) (a b : Position) → 1 ≤ i → i < length ps → a ≡ get_or ps (i - 1) a → b ≡ get_or ps i b → crossings x y (drop (i - 1) (positions_value ps)) ≡ cond (is_crossing x y (position_value a) (position_value b)) 1 0 + crossings x y (drop (i + 1 - 1) (positions_value ps))
crossings_at x y ps i a b low h ea eb =
    ap (λ (es : List (PositionValue × PositionValue)). count_by (λ e. is_crossing x y e.0 e.1) es) (edges_at ps i a b low h ea eb)
    ∙ sum_by-cons (λ (e : PositionValue × PositionValue). cond (is_crossing x y e.0 e.1) 1 0) (position_value a, position_value b) (edges (drop (i + 1 - 1) (positions_value ps)))

pub crossings_left : (x y : ℤ) (ps : List Position) (i : ℕ) → length ps ≤ i → crossings x y (drop (i - 1) (positions_value ps)) ≡ 0
crossings_left x y ps i h = ap (λ (es : List (PositionValue × PositionValue)). count_by (λ e. is_crossing x y e.0 e.1) es) (edges_left ps i h)

turn_by : (old hit : Bool) (m n : ℕ) → (cond old 1 0 + (cond hit 1 0 + m)) % 2 ≡ n → (cond (cond hit (not old) old) 1 0 + m) % 2 ≡ n
turn_by true true m n h = omega arith
turn_by true false m n h = omega arith
turn_by false true m n h = omega arith
turn_by false false m n h = omega arith

pub turn_step : (old new hit : Bool) (k m n : ℕ) → new ≡ cond hit (not old) old → k ≡ cond hit 1 0 + m → (cond old 1 0 + k) % 2 ≡ n → (cond new 1 0 + m) % 2 ≡ n
turn_step old new hit k m n e f h =
    ap (λ (b : Bool). (cond b 1 0 + m) % 2) e ∙ turn_by old hit m n (ap (λ (j : ℕ). (cond old 1 0 + j) % 2) (sym f) ∙ h)

pub turn_end : (b : Bool) (m n : ℕ) → m ≡ 0 → (cond b 1 0 + m) % 2 ≡ n → cond b 1 0 ≡ n
turn_end true m n e h = omega arith
turn_end false m n e h = omega arith
