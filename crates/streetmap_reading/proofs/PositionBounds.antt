-- Bounds of positions.
use Rattle.std.proofs.Common.{◌≡◌, ℤ, List, [], ◌∷◌, ◌++◌, Option, None, Some, refl, sym, ap, subst, ◌∙◌, inl, inr, arith}
use Rattle.std.specs.Prelude.{unwrap_or, IfSome}
use Rattle.std.specs.Option.{option_map, option_map_or}
use Rattle.std.specs.List.{AllByRecursion, flat_map}
use Rattle.std.proofs.lemmas.Int.{ints}
use Rattle.std.proofs.lemmas.List.Elements.{recursion_from_All}
use Rattle.streetmap_grid.specs.declared.grid_box.GridBox.{GridBox}
use Rattle.streetmap_grid.specs.Values.{PositionValue, SimpleValue, GeometryValue, point, multi_point, line_string, multi_line_string, polygon, multi_polygon}
use Rattle.streetmap_grid.specs.Values.{simple, collection}
use Rattle.streetmap_grid.specs.Views.{box_value}
use Rattle.streetmap_grid.specs.Some.{SomeOf}
use Rattle.streetmap_grid.specs.Range.{IsBound}
use Rattle.streetmap_grid.specs.WellFormed.{IsInGrid, IsBox, IsLine, IsRing, IsPolygon, IsSimple, IsGeometry}
use Rattle.streetmap_grid.specs.Extent.{IsExtent, polygon_vertices, simple_vertices, vertices, extent_of, positions_extent}
use Rattle.streetmap_grid.specs.Bounds.{AreBounds}
use Rattle.streetmap_grid.proofs.Growing.{same_extent, positions_extent_is, extent_is, ordered_extent}
use Rattle.streetmap_geojson.specs.FeatureInvariant.{IsGeometryIf}
use Rattle.streetmap_ledger.specs.Summaries.{extent_if}

-- the bounds of a feature's positions
pub feature_bounds : (o : Option GridBox) (g : Option GeometryValue) → IsGeometryIf g → option_map box_value o ≡ option_map extent_of g →
    AreBounds (option_map_or vertices g []) o
feature_bounds None None h e = refl
feature_bounds None (Some v) h e = absurd cc
feature_bounds (Some b) None h e = absurd cc
feature_bounds (Some b) (Some v) h e = subst (IsExtent (vertices v)) (sym (ap (λ o. unwrap_or o (box_value b)) e)) (extent_is v h)

-- bounds are the extent
pub bounds_extent : (ps : List PositionValue) (o : Option GridBox) → AreBounds ps o → option_map box_value o ≡ extent_if ps
bounds_extent ps None e = ap extent_if (sym e)
bounds_extent [] (Some g) h = absurd h.west
bounds_extent (p ∷ ps) (Some g) h = ap (λ x. Some x) (same_extent (p ∷ ps) (box_value g) (positions_extent (p ∷ ps)) h (positions_extent_is p ps))

-- ---- the extent of a geometry is a box

all_both : (P : PositionValue → Type 0) (ps qs : List PositionValue) → AllByRecursion P ps → AllByRecursion P qs → AllByRecursion P (ps ++ qs)
all_both P [] qs a b = b
all_both P (p ∷ ps) qs a b = (a.0, all_both P ps qs a.1 b)

all_flat : {X : Type 0} (f : X → List PositionValue) (P : X → Type 0) → ((x : X) → P x → AllByRecursion IsInGrid (f x)) → (xs : List X) → AllByRecursion P xs →
    AllByRecursion IsInGrid (flat_map f xs)
all_flat f P each [] all = tt
all_flat f P each (x ∷ xs) all = all_both IsInGrid (f x) (flat_map f xs) (each x all.0) (all_flat f P each xs all.1)

polygon_in : (rings : List (List PositionValue)) → IsPolygon rings → AllByRecursion IsInGrid (polygon_vertices rings)
polygon_in rings h = all_flat (λ ring. ring) IsRing (λ r k. recursion_from_All IsInGrid r k.0) rings (recursion_from_All IsRing rings h.0)

simple_in : (s : SimpleValue) → IsSimple s → AllByRecursion IsInGrid (simple_vertices s)
simple_in (point p) h = (h, tt)
simple_in (multi_point ps) h = recursion_from_All IsInGrid ps h.0
simple_in (line_string ps) h = recursion_from_All IsInGrid ps h.0
simple_in (multi_line_string ls) h = all_flat (λ line. line) IsLine (λ l k. recursion_from_All IsInGrid l k.0) ls (recursion_from_All IsLine ls h.0)
simple_in (polygon rings) h = polygon_in rings h
simple_in (multi_polygon ps) h = all_flat polygon_vertices IsPolygon polygon_in ps (recursion_from_All IsPolygon ps h.0)

vertices_in : (v : GeometryValue) → IsGeometry v → AllByRecursion IsInGrid (vertices v)
vertices_in (simple s) h = simple_in s h
vertices_in (collection ss) h = all_flat simple_vertices IsSimple simple_in ss (recursion_from_All IsSimple ss h.0)

x_bound : (n : ℤ) (ps : List PositionValue) → AllByRecursion IsInGrid ps → SomeOf (λ p. p.x ≡ n) ps → IsBound n
x_bound n [] all s = absurd s
x_bound n (p ∷ ps) all (inl e) = omega (arith, ints, all.0.0, e)
x_bound n (p ∷ ps) all (inr s) = x_bound n ps all.1 s

y_bound : (n : ℤ) (ps : List PositionValue) → AllByRecursion IsInGrid ps → SomeOf (λ p. p.y ≡ n) ps → IsBound n
y_bound n [] all s = absurd s
y_bound n (p ∷ ps) all (inl e) = omega (arith, ints, all.0.1, e)
y_bound n (p ∷ ps) all (inr s) = y_bound n ps all.1 s

pub extent_is_box : (g : Option GeometryValue) → IsGeometryIf g → IfSome (option_map extent_of g) IsBox
extent_is_box None h = tt
extent_is_box (Some v) h =
    let all = vertices_in v h in
    let it = extent_is v h in
    let ordered = ordered_extent v h in (
      x_bound _ (vertices v) all it.west,
      y_bound _ (vertices v) all it.south,
      x_bound _ (vertices v) all it.east,
      y_bound _ (vertices v) all it.north,
      ordered.0,
      ordered.1,
    )
