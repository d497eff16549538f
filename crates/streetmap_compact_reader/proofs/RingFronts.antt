-- Rings of a polygon, one after another.
use Rattle.std.proofs.Common.{◌≡◌, ℕ, ◌+◌, ◌≤◌, ◌&&◌, Bool, true, false, not, IsTrue, List, [], ◌∷◌, ◌++◌, length, refl, ap, ap₂, sym, ◌∙◌, arith, append_assoc}
use Rattle.std.proofs.Common.{ℤ}
use Rattle.std.specs.List.{list_all, flat_map}
use Rattle.std.proofs.lemmas.List.{append-nil}
use Rattle.std.proofs.lemmas.List.Elements.{All-push, All-cons, All-nil}
use Rattle.std.proofs.lemmas.List.Folds.{list_all-append}
use Rattle.std.proofs.lemmas.Grind.{flat_map-append}
use Rattle.streetmap_grid.specs.Values.{PositionValue, BoxValue}
use Rattle.streetmap_grid.specs.Views.{position_value, box_value}
use Rattle.streetmap_grid.specs.WellFormed.{IsRing}
use Rattle.streetmap_grid.specs.Extent.{positions_extent, polygon_vertices, union}
use Rattle.streetmap_grid.specs.Ring.{is_same, is_wrong, is_right, is_closed}
use Rattle.streetmap_geojson.specs.Meaning.{counts, line_count}
use Rattle.streetmap_compact_reader.specs.Fronts.{ArePositions, IsRingFront, AreRings}
use Rattle.streetmap_compact_reader.specs.declared.positions.Positions.{Positions}
use Rattle.streetmap_compact_reader.proofs.KeptPositions.{extent_joined}

-- positions that are closed, of the right sign and four at least are a ring
pub ring_front : (hole : Bool) (before after : List ℕ) (kept : Positions) → ArePositions before after kept → 4 ≤ kept.count →
    is_same (position_value kept.first) (position_value kept.last) ≡ true → is_wrong hole kept.area ≡ false → IsRingFront hole before after kept
ring_front hole before after kept h long same right =
    let closed : is_closed (h.first ∷ h.others) ≡ true = ap₂ is_same (sym h.are.starts) (sym h.are.ends) ∙ same in
    record {
      first = h.first;
      others = h.others;
      text = h.text;
      are = h.are;
      ring = (h.are.inside, omega (arith, h.are.counted, long), closed);
      right = ap (λ (z : ℤ). not (is_wrong hole z)) (sym h.are.around) ∙ ap not right;
    }

-- as many positions as the list has
pub line_count_is : (ps : List PositionValue) → line_count ps ≡ length ps
line_count_is [] = refl
line_count_is (p ∷ ps) = let more = line_count_is ps in omega (arith, more)

counts_more : {A : Type 0} (count : A → ℕ) (xs : List A) (y : A) → counts count (xs ++ y ∷ []) ≡ counts count xs + count y
counts_more count [] y = omega arith
counts_more count (x ∷ xs) y = let more = counts_more count xs y in omega (arith, more)

one_all : (ring : List PositionValue) → IsTrue (is_right true ring) → list_all (is_right true) (ring ∷ []) ≡ true
one_all ring h = rw h refl

-- the exterior ring
pub first_ring : (before after : List ℕ) (kept : Positions) (h : IsRingFront false before after kept) →
    AreRings (h.first ∷ h.others) [] kept.count (box_value kept.extent)
first_ring before after kept h = record {
  rings = (All-cons IsRing (h.first ∷ h.others) [] h.ring (All-nil IsRing), omega arith);
  right = rw h.right refl;
  counted = omega (arith, h.are.counted, line_count_is (h.first ∷ h.others));
  few = h.are.few;
  reaches = h.are.reaches ∙ ap positions_extent (sym (append-nil (h.first ∷ h.others)));
}

vertices_more : (first : PositionValue) (others : List PositionValue) (holes : List (List PositionValue)) (hole : List PositionValue) →
    polygon_vertices ((first ∷ others) ∷ (holes ++ hole ∷ [])) ≡ polygon_vertices ((first ∷ others) ∷ holes) ++ hole
vertices_more first others holes hole =
    ap (λ (vs : List PositionValue). (first ∷ others) ++ vs) (flat_map-append (λ (r : List PositionValue). r) holes (hole ∷ [])
    ∙ ap (λ (vs : List PositionValue). flat_map (λ (r : List PositionValue). r) holes ++ vs) (append-nil hole))
    ∙ sym (append_assoc (first ∷ others) (flat_map (λ (r : List PositionValue). r) holes) hole)

both_right : (a b : Bool) → (a && b) ≡ true → (a && (b && true)) ≡ true
both_right true true h = refl
both_right true false h = absurd cc
both_right false b h = absurd cc

-- one more hole
pub next_ring : (first : PositionValue) (others : List PositionValue) (holes : List (List PositionValue)) (count sum : ℕ) (extent whole : BoxValue)
    (before after : List ℕ) (kept : Positions)
    → AreRings (first ∷ others) holes count extent → (h : IsRingFront true before after kept) → sum ≡ count + kept.count → sum ≤ 100000 → whole
    ≡ union extent (box_value kept.extent)
    → AreRings (first ∷ others) (holes ++ (h.first ∷ h.others) ∷ []) sum whole
next_ring first others holes count sum extent whole before after kept rings h added few joined =
    let hole = h.first ∷ h.others in
    let exterior = is_right false (first ∷ others) in
    let all = list_all-append (is_right true) holes (hole ∷ []) in
    record {
      rings = (All-push IsRing ((first ∷ others) ∷ holes) hole rings.rings.0 h.ring, omega arith);
      right = ap (λ (b : Bool). exterior && b) (all ∙ ap (λ (b : Bool). list_all (is_right true) holes && b) (one_all hole h.right))
          ∙ both_right exterior (list_all (is_right true) holes) rings.right;
      counted = omega (arith, added, rings.counted, h.are.counted, line_count_is hole, counts_more line_count holes hole);
      few = few;
      reaches = joined ∙ ap₂ union rings.reaches h.are.reaches
          ∙ sym (extent_joined first (others ++ flat_map (λ (r : List PositionValue). r) holes) h.first h.others)
          ∙ ap positions_extent (sym (vertices_more first others holes hole));
    }
