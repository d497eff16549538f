-- What is kept of positions, with one more of them.
use Rattle.std.proofs.Common.{◌≡◌, ◌+◌, ◌<◌, ℤ, pos, ◌+ℤ◌, List, [], ◌∷◌, ◌++◌, refl, ap, ap₂, sym, ◌∙◌, arith}
use Rattle.std.proofs.lemmas.Int.{ints}
use Rattle.std.proofs.lemmas.List.{length-append}
use Rattle.std.proofs.lemmas.List.Elements.{All-push}
use Rattle.streetmap_grid.specs.Values.{PositionValue, BoxValue}
use Rattle.streetmap_grid.specs.Views.{position_value, box_value}
use Rattle.streetmap_grid.specs.WellFormed.{IsInGrid}
use Rattle.streetmap_grid.specs.Edges.{edges_from}
use Rattle.streetmap_grid.specs.Extent.{positions_extent, union}
use Rattle.streetmap_grid.specs.Ring.{last_from, edge_area, edges_area}
use Rattle.streetmap_grid.proofs.Growing.{extent_both, positions_extent_is, same_extent}
use Rattle.streetmap_compact_reader.specs.Fronts.{IsKeptOf}
use Rattle.streetmap_compact_reader.specs.declared.positions.Positions.{Positions}

pub last_more : (a : PositionValue) (bs : List PositionValue) (q : PositionValue) → last_from a (bs ++ q ∷ []) ≡ q
last_more a [] q = refl
last_more a (b ∷ bs) q = last_more b bs q

alone : (z : ℤ) → z +ℤ pos 0 ≡ pos 0 +ℤ z
alone z = omega (arith, ints)

grouped : (a b c : ℤ) → a +ℤ (b +ℤ c) ≡ (a +ℤ b) +ℤ c
grouped a b c = omega (arith, ints)

area_more : (a : PositionValue) (bs : List PositionValue) (q : PositionValue) → edges_area (edges_from a (bs ++ q ∷ []))
    ≡ edges_area (edges_from a bs) +ℤ edge_area (last_from a bs, q)
area_more a [] q = alone (edge_area (a, q))
area_more a (b ∷ bs) q = ap (λ (z : ℤ). edge_area (a, b) +ℤ z) (area_more b bs q) ∙ grouped (edge_area (a, b)) (edges_area (edges_from b bs))
    (edge_area (last_from b bs, q))

-- the extent of two lists that are not empty
pub extent_joined : (p : PositionValue) (ps : List PositionValue) (q : PositionValue) (qs : List PositionValue) → positions_extent ((p ∷ ps) ++ (q ∷ qs))
    ≡ union (positions_extent (p ∷ ps)) (positions_extent (q ∷ qs))
extent_joined p ps q qs =
    same_extent ((p ∷ ps) ++ (q ∷ qs)) (positions_extent ((p ∷ ps) ++ (q ∷ qs))) (union (positions_extent (p ∷ ps)) (positions_extent (q ∷ qs)))
    (positions_extent_is p (ps ++ (q ∷ qs)))
    (extent_both (p ∷ ps) (q ∷ qs) (positions_extent (p ∷ ps)) (positions_extent (q ∷ qs)) (positions_extent_is p ps) (positions_extent_is q qs))

pub next_kept : (first : PositionValue) (others : List PositionValue) (next : PositionValue) (kept more : Positions) → IsKeptOf first others kept → kept.count
    < 100000 → more.count ≡ kept.count + 1 → position_value more.first ≡ position_value kept.first
    → box_value more.extent ≡ union (box_value kept.extent) (positions_extent (next ∷ [])) → position_value more.last ≡ next → more.area
    ≡ kept.area +ℤ edge_area (position_value kept.last, next) → IsInGrid next → IsKeptOf first (others ++ next ∷ []) more
next_kept first others next kept more h few count start extent last area inside =
    record {
      starts = start ∙ h.starts;
      inside = All-push IsInGrid (first ∷ others) next h.inside inside;
      counted = omega (arith, h.counted, count, length-append {A = PositionValue} others (next ∷ []));
      few = omega (arith, few, count);
      reaches = extent ∙ ap (λ (g : BoxValue). union g (positions_extent (next ∷ []))) h.reaches ∙ sym (extent_joined first others next []);
      ends = last ∙ sym (last_more first others next);
      around = area ∙ ap₂ (λ (z : ℤ) (p : PositionValue). z +ℤ edge_area (p, next)) h.around h.ends ∙ sym (area_more first others next);
    }
