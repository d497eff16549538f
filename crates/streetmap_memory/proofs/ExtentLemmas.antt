-- The extent of features one after the other.
use Rattle.std.proofs.Common.{◌≡◌, List, [], ◌∷◌, ◌++◌, Option, None, Some, sym, ap, subst, ◌∙◌, append-nil}
use Rattle.std.specs.Prelude.{unwrap_or}
use Rattle.std.specs.Option.{option_map, option_map_or}
use Rattle.streetmap_grid.specs.declared.grid_box.GridBox.{GridBox}
use Rattle.streetmap_grid.specs.Values.{PositionValue, GeometryValue}
use Rattle.streetmap_grid.specs.Views.{box_value}
use Rattle.streetmap_grid.specs.Extent.{IsExtent, vertices, extent_of, positions_extent}
use Rattle.streetmap_grid.specs.Bounds.{AreBounds}
use Rattle.streetmap_grid.proofs.Growing.{same_extent, positions_extent_is, extent_is}
use Rattle.streetmap_geojson.specs.FeatureInvariant.{IsGeometryIf}
use Rattle.streetmap_ledger.specs.Summaries.{SummaryValue, extent_if}

-- ---- the bounds of features
no_more : (ps : List PositionValue) (o : Option GridBox) → AreBounds ps o → AreBounds (ps ++ []) o
no_more ps o b = subst (λ vs. AreBounds vs o) (sym (append-nil ps)) b

-- the bounds of the first feature that has some, or of none
pub grown_first : (ps : List PositionValue) (o : Option GridBox) (g : Option GeometryValue) → IsGeometryIf g → option_map box_value o ≡ option_map extent_of g →
    ps ≡ [] → AreBounds (ps ++ option_map_or vertices g []) o
grown_first ps None None h e none = ap (λ vs. vs ++ []) none
grown_first ps None (Some v) h e none = absurd cc
grown_first ps (Some b) None h e none = absurd cc
grown_first ps (Some b) (Some v) h e none = subst (λ vs. IsExtent (vs ++ vertices v) (box_value b)) (sym none)
    (subst (IsExtent (vertices v)) (sym (ap (λ o. unwrap_or o (box_value b)) e)) (extent_is v h))

-- the bounds with those of one more feature
pub grown_next : (ps : List PositionValue) (b k : GridBox) (g : Option GeometryValue) → IsGeometryIf g → Some (box_value b) ≡ option_map extent_of g
    → ((qs : List PositionValue) → IsExtent qs (box_value b) → IsExtent (ps ++ qs) (box_value k)) → IsExtent (ps ++ option_map_or vertices g []) (box_value k)
grown_next ps b k None h e wide = absurd cc
grown_next ps b k (Some v) h e wide = wide (vertices v) (subst (IsExtent (vertices v)) (sym (ap (λ o. unwrap_or o (box_value b)) e)) (extent_is v h))

-- bounds are the extent
pub bounds_extent : (ps : List PositionValue) (o : Option GridBox) → AreBounds ps o → option_map box_value o ≡ extent_if ps
bounds_extent ps None e = ap extent_if (sym e)
bounds_extent [] (Some g) h = absurd h.west
bounds_extent (p ∷ ps) (Some g) h = ap (λ x. Some x) (same_extent (p ∷ ps) (box_value g) (positions_extent (p ∷ ps)) h (positions_extent_is p ps))

-- two summaries of one id, title, time property and extent
pub same_summary : (x y : SummaryValue) → x.id ≡ y.id → x.title ≡ y.title → x.time ≡ y.time → x.extent ≡ y.extent → x ≡ y
same_summary x y i t p e =
    ap (λ a. record { id = a; title = x.title; time = x.time; extent = x.extent }) i ∙ (ap
    (λ a. record { id = y.id; title = a; time = x.time; extent = x.extent }) t
    ∙ (ap (λ a. record { id = y.id; title = y.title; time = a; extent = x.extent }) p ∙ ap
    (λ a. record { id = y.id; title = y.title; time = y.time; extent = a }) e))
