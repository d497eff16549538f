-- What it means for a ring to be turned.
use Rattle.std.specs.Prelude.{ℕ, suc, ◌<◌, ℤ, neg_ℤ, ◌+ℤ◌, Bool, true, false, not, cond, ◌≡◌, List, [], ◌∷◌, ◌++◌, length, map, reverse, refl, slice_index_or, nat_lt}
use Rattle.std.specs.List.{list_all}
use Rattle.std.proofs.Common.{sym, ◌∙◌, ap, arith}
use Rattle.std.proofs.lemmas.Int.{ints}
use Rattle.std.proofs.lemmas.Bool.{lt-ltb}
use Rattle.std.proofs.lemmas.List.{map-append, reverse-append}
use Rattle.streetmap_grid.specs.declared.ring.Ring.{Ring}
use Rattle.streetmap_grid.specs.Values.{PositionValue}
use Rattle.streetmap_grid.specs.Views.{ring_value, rings_value}
use Rattle.streetmap_grid.specs.Ring.{edge_area, double_area, is_wrong, turned, oriented, is_right, is_oriented_polygon}
use Rattle.streetmap_grid.proofs.Closing.{reverse-cons}
use Rattle.streetmap_grid.proofs.Booleans.{and_true}

-- ---- reversal negates the area
swap_area : (a b : PositionValue) → edge_area (b, a) ≡ neg_ℤ (edge_area (a, b))
swap_area a b = omega (arith, ints)

area_push : (xs : List PositionValue) (b a : PositionValue) → double_area ((xs ++ b ∷ []) ++ a ∷ []) ≡ double_area (xs ++ b ∷ []) +ℤ edge_area (b, a)
area_push [] b a = omega (arith, ints)
area_push (x ∷ []) b a = omega (arith, ints)
area_push (x ∷ (y ∷ ys)) b a = omega (arith, ints, area_push (y ∷ ys) b a)

pub reverse_area : (ps : List PositionValue) → double_area (reverse ps) ≡ neg_ℤ (double_area ps)
reverse_area [] = refl
reverse_area (a ∷ []) = refl
reverse_area (a ∷ (b ∷ cs)) =
    let e : reverse (a ∷ (b ∷ cs)) ≡ (reverse cs ++ b ∷ []) ++ a ∷ [] = reverse-cons a (b ∷ cs) ∙ ap (λ (xs : List PositionValue). xs ++ a ∷ []) (reverse-cons b cs) in
    let f : double_area (reverse cs ++ b ∷ []) ≡ neg_ℤ (double_area (b ∷ cs)) = ap double_area (sym (reverse-cons b cs)) ∙ reverse_area (b ∷ cs) in
    omega (arith, ints, ap double_area e, area_push (reverse cs) b a, f, swap_area a b)

pub map-reverse : {A B : Type 0} (f : A → B) (xs : List A) → map f (reverse xs) ≡ reverse (map f xs)
map-reverse f [] = refl
map-reverse f (x ∷ xs) =
    ap (map f) (reverse-append (x ∷ []) xs) ∙ map-append f (reverse xs) (x ∷ [])
    ∙ ap (λ ys. ys ++ f x ∷ []) (map-reverse f xs) ∙ sym (reverse-append (f x ∷ []) (map f xs))

-- ---- a kept ring has the right sign
flipped : (hole : Bool) (n m : ℤ) → is_wrong hole n ≡ true → m ≡ neg_ℤ n → is_wrong hole m ≡ false
flipped true n m w e = sym (omega (arith, ints))
flipped false n m w e = sym (omega (arith, ints))

turned_by : (hole : Bool) (ps : List PositionValue) (t : Bool) → is_wrong hole (double_area ps) ≡ t → is_wrong hole (double_area (cond t (reverse ps) ps)) ≡ false
turned_by hole ps true w = flipped hole (double_area ps) (double_area (reverse ps)) w (reverse_area ps)
turned_by hole ps false w = w

pub turned_right : (hole : Bool) (ps : List PositionValue) → is_right hole (turned hole ps) ≡ true
turned_right hole ps = ap not (turned_by hole ps (is_wrong hole (double_area ps)) refl)

all_right : (rings : List (List PositionValue)) → list_all (is_right true) (map (turned true) rings) ≡ true
all_right [] = refl
all_right (r ∷ rs) = and_true _ _ (turned_right true r) (all_right rs)

pub oriented_right : (rings : List (List PositionValue)) → is_oriented_polygon (oriented rings) ≡ true
oriented_right [] = refl
oriented_right (exterior ∷ holes) = and_true _ _ (turned_right false exterior) (all_right holes)

-- ---- a ring of the right sign, or of area zero, stays as it is
kept_by : (ps : List PositionValue) (t : Bool) → not t ≡ true → cond t (reverse ps) ps ≡ ps
kept_by ps true h = cc
kept_by ps false h = refl

pub turned_kept : (hole : Bool) (ps : List PositionValue) → is_right hole ps ≡ true → turned hole ps ≡ ps
turned_kept hole ps h = kept_by ps (is_wrong hole (double_area ps)) h

-- ---- rings that were turned one by one
following : (k : ℕ) → nat_lt 0 (suc k) ≡ true
following k = lt-ltb 0 (suc k) (omega arith)

holes_too : (rs qs : List Ring) → length rs ≡ length qs → ((k : ℕ) (d : Ring) → k < length qs → ring_value (slice_index_or rs k d) ≡ turned true (ring_value (slice_index_or qs k d))) → rings_value rs ≡ map (turned true) (rings_value qs)
holes_too [] [] same each = refl
holes_too [] (q ∷ qs) same each = absurd (omega arith)
holes_too (r ∷ rs) [] same each = absurd (omega arith)
holes_too (r ∷ rs) (q ∷ qs) same each =
    let rest = holes_too rs qs (omega arith) (λ k d lt. each (suc k) d (omega arith)) in
    rw (each 0 r (omega arith), rest) refl

pub turned_each : (rs qs : List Ring) → length rs ≡ length qs → ((k : ℕ) (d : Ring) → k < length qs → ring_value (slice_index_or rs k d) ≡ turned (nat_lt 0 k) (ring_value (slice_index_or qs k d))) → rings_value rs ≡ oriented (rings_value qs)
turned_each [] [] same each = refl
turned_each [] (q ∷ qs) same each = absurd (omega arith)
turned_each (r ∷ rs) [] same each = absurd (omega arith)
turned_each (r ∷ rs) (q ∷ qs) same each =
    let rest = holes_too rs qs (omega arith) (λ k d lt. each (suc k) d (omega arith) ∙ ap (λ (b : Bool). turned b (ring_value (slice_index_or qs k d))) (following k)) in
    rw (each 0 r (omega arith), rest) refl
