-- The test of a ring's two ends, and what reversal leaves of it.
use Rattle.std.specs.Prelude.{ℕ, ◌-◌, ◌<◌, ◌≤◌, ℤ, true, ◌&&◌, ◌≡◌, List, [], ◌∷◌, ◌++◌, reverse, length, get_or, refl, Option, Some, None}
use Rattle.std.proofs.Common.{subst, sym, ◌∙◌, ap, arith}
use Rattle.std.proofs.lemmas.List.{get_or-map, length-map, reverse-append}
use Rattle.std.specs.Ordering.{int_eq}
use Rattle.std.specs.Option.{option_eq}
use Rattle.std.proofs.lemmas.Bool.Decides.{Decides-int_eq}
use Rattle.streetmap_grid.proofs.Booleans.{both, and_true}
use Rattle.streetmap_grid.specs.declared.position.Position.{Position}
use Rattle.streetmap_grid.specs.Values.{PositionValue}
use Rattle.streetmap_grid.specs.PositionViews.{position_value, positions_value}
use Rattle.streetmap_grid.specs.Ring.{is_same, last_from, is_closed}

last_at : (a : PositionValue) (bs : List PositionValue) (b : PositionValue) → b ≡ get_or (a ∷ bs) (length bs) b → last_from a bs ≡ b
last_at a [] b e = sym e
last_at a (c ∷ cs) b e = last_at c cs b e

plain_closed_at : (ps : List PositionValue) (n : ℕ) (a b : PositionValue) → 1 ≤ n → n ≡ length ps → a ≡ get_or ps 0 a → b ≡ get_or ps (n - 1) b → is_closed ps ≡ is_same a b
plain_closed_at [] n a b h m ea eb = absurd (omega arith)
plain_closed_at (p ∷ ps) n a b h m ea eb =
    let k : n - 1 ≡ length ps = omega arith in
    ap (λ (q : PositionValue). is_same q (last_from p ps)) (sym ea) ∙ ap (is_same a) (last_at p ps b (eb ∙ ap (λ (i : ℕ). get_or (p ∷ ps) i b) k))

-- by the first and the last position that the code read
pub closed_at : (ps : List Position) (n : ℕ) (a b : Position) → 1 ≤ n → n ≡ length ps → a ≡ get_or ps 0 a → b ≡ get_or ps (n - 1) b → is_closed (positions_value ps) ≡ is_same (position_value a) (position_value b)
closed_at ps n a b h m ea eb =
    let first : 0 < length ps = omega arith in
    let last : n - 1 < length ps = omega arith in
    plain_closed_at (positions_value ps) n (position_value a) (position_value b) h (m ∙ sym (length-map ps position_value))
    (ap position_value ea ∙ sym (get_or-map position_value ps 0 a (position_value a) first))
    (ap position_value eb ∙ sym (get_or-map position_value ps (n - 1) b (position_value b) last))

-- ---- identical positions are equal ones
option_same : (o u : Option ℤ) → option_eq int_eq o u ≡ true → o ≡ u
option_same None None h = refl
option_same None (Some y) h = cc
option_same (Some x) None h = cc
option_same (Some x) (Some y) h = ap Some ((Decides-int_eq x y).0 h)

same_option : (o : Option ℤ) → option_eq int_eq o o ≡ true
same_option None = refl
same_option (Some x) = (Decides-int_eq x x).1 refl

abbrev position_of : ℤ → ℤ → Option ℤ → PositionValue
position_of x y z = record { x = x; y = y; z = z }

made_same : {a b : PositionValue} → a.x ≡ b.x → a.y ≡ b.y → a.z ≡ b.z → a ≡ b
made_same {a} {b} ex ey ez =
    ap (λ (x : ℤ). position_of x a.y a.z) ex ∙ ap (λ (y : ℤ). position_of b.x y a.z) ey ∙ ap (λ (z : Option ℤ). position_of b.x b.y z) ez

pub same_equal : (a b : PositionValue) → is_same a b ≡ true → a ≡ b
same_equal a b h =
    let x = both (int_eq a.x b.x) (int_eq a.y b.y && option_eq int_eq a.z b.z) h in
    let y = both (int_eq a.y b.y) (option_eq int_eq a.z b.z) x.1 in
    let ex = (Decides-int_eq a.x b.x).0 x.0 in
    let ey = (Decides-int_eq a.y b.y).0 y.0 in
    let ez = option_same a.z b.z y.1 in
    made_same ex ey ez

pub equal_same : (a : PositionValue) → is_same a a ≡ true
equal_same a = and_true (int_eq a.x a.x) _ ((Decides-int_eq a.x a.x).1 refl) (and_true (int_eq a.y a.y) _ ((Decides-int_eq a.y a.y).1 refl) (same_option a.z))

same_turned : (a b : PositionValue) → is_same a b ≡ true → is_same b a ≡ true
same_turned a b h = let P : PositionValue → Type 0 = λ q. is_same q a ≡ true in subst P (same_equal a b h) (equal_same a)

-- ---- the ends of a reversed list
pub reverse-cons : (a : PositionValue) (bs : List PositionValue) → reverse (a ∷ bs) ≡ reverse bs ++ a ∷ []
reverse-cons a bs = reverse-append (a ∷ []) bs

last_push : (c : PositionValue) (cs : List PositionValue) (a : PositionValue) → last_from c (cs ++ a ∷ []) ≡ a
last_push c [] a = refl
last_push c (b ∷ bs) a = last_push b bs a

reverse_ends : (a : PositionValue) (bs : List PositionValue) → (cs : List PositionValue) × ((reverse (a ∷ bs) ≡ last_from a bs ∷ cs) × (last_from (last_from a bs) cs ≡ a))
reverse_ends a [] = ([], (refl, refl))
reverse_ends a (b ∷ bs) =
    let r = reverse_ends b bs in
    (r.0 ++ a ∷ [], (reverse-cons a (b ∷ bs) ∙ ap (λ (xs : List PositionValue). xs ++ a ∷ []) r.1.0, last_push (last_from b bs) r.0 a))

pub reverse_closed : (ps : List PositionValue) → is_closed ps ≡ true → is_closed (reverse ps) ≡ true
reverse_closed [] h = h
reverse_closed (a ∷ bs) h =
    let r = reverse_ends a bs in
    let k : is_same (last_from a bs) a ≡ true = same_turned a (last_from a bs) h in
    ap is_closed r.1.0 ∙ ap (is_same (last_from a bs)) r.1.1 ∙ k
