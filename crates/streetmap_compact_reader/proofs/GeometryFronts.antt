-- A geometry at the front of a text, from its coordinates and its type.
use Rattle.std.proofs.Common.{◌≡◌, ℕ, ◌≤◌, List, [], ◌∷◌, ◌++◌, None, Some, codes, refl, ap, ◌∙◌, arith, append_assoc}
use Rattle.serde_json.specs.Written.{compact_text}
use Rattle.streetmap_grid.specs.Values as values
use Rattle.streetmap_grid.specs.Values.{PositionValue, SimpleValue, BoxValue}
use Rattle.streetmap_grid.specs.Views.{box_value}
use Rattle.streetmap_grid.specs.WellFormed.{IsInGrid}
use Rattle.streetmap_grid.specs.Extent.{positions_extent, extent_of}
use Rattle.streetmap_feature_text.specs.Written.{position_data, coordinates_data, name_of}
use Rattle.streetmap_feature_text.proofs.WrittenParts.{simple_text_is}
use Rattle.streetmap_compact_reader.specs.Fronts.{ArePositions, IsPolygonFront, AreCoordinates, IsGeometryFront}
use Rattle.streetmap_compact_reader.specs.declared.positions.Positions.{Positions}
use Rattle.streetmap_compact_reader.proofs.RingFronts.{line_count_is}

pub point_front : (p : PositionValue) (before typed after : List ℕ) (extent : BoxValue) → IsInGrid p → before ≡ compact_text (position_data p) ++ typed → typed
    ≡ codes ",\"type\":\"Point\"}" ++ after → extent ≡ positions_extent (p ∷ []) → AreCoordinates before after extent
unfolding position_data
point_front p before typed after extent inside text type reaches = record {
  simple = values.point p;
  text = text ∙ ap (λ (t : List ℕ). compact_text (coordinates_data (values.point p)) ++ t) type;
  made = inside;
  few = omega arith;
  oriented = refl;
  reaches = reaches;
}

pub line_front : (before typed after : List ℕ) (kept : Positions) → ArePositions before typed kept → 2 ≤ kept.count → typed ≡ codes ",\"type\":\"LineString\"}"
    ++ after → AreCoordinates before after (box_value kept.extent)
line_front before typed after kept h long type =
    let ps = h.first ∷ h.others in
    record {
      simple = values.line_string ps;
      text = h.text ∙ ap (λ (t : List ℕ). compact_text (coordinates_data (values.line_string ps)) ++ t) type;
      made = (h.are.inside, omega (arith, h.are.counted, long));
      few = omega (arith, h.are.counted, h.are.few, line_count_is ps);
      oriented = refl;
      reaches = h.are.reaches;
    }

pub points_front : (before typed after : List ℕ) (kept : Positions) → ArePositions before typed kept → typed ≡ codes ",\"type\":\"MultiPoint\"}" ++ after →
    AreCoordinates before after (box_value kept.extent)
points_front before typed after kept h type =
    let ps = h.first ∷ h.others in
    record {
      simple = values.multi_point ps;
      text = h.text ∙ ap (λ (t : List ℕ). compact_text (coordinates_data (values.multi_point ps)) ++ t) type;
      made = (h.are.inside, omega arith);
      few = omega (arith, h.are.counted, h.are.few, line_count_is ps);
      oriented = refl;
      reaches = h.are.reaches;
    }

pub polygon_front : (before typed after : List ℕ) (extent : BoxValue) → IsPolygonFront before typed extent → typed ≡ codes ",\"type\":\"Polygon\"}" ++ after →
    AreCoordinates before after extent
polygon_front before typed after extent h type = record {
  simple = values.polygon h.rings;
  text = h.text ∙ ap (λ (t : List ℕ). compact_text (coordinates_data (values.polygon h.rings)) ++ t) type;
  made = h.made;
  few = h.few;
  oriented = h.right;
  reaches = h.reaches;
}

regrouped : (a b c d e after : List ℕ) → a ++ (b ++ (c ++ (d ++ (e ++ after)))) ≡ (a ++ (b ++ (c ++ (d ++ e)))) ++ after
regrouped a b c d e after = simp append_assoc

pub geometry_front : (before placed after : List ℕ) (extent : BoxValue) → before ≡ codes "{\"coordinates\":" ++ placed → AreCoordinates placed after extent →
    IsGeometryFront before after (Some extent)
unfolding extent_of
geometry_front before placed after extent opened h =
    let s = h.simple in
    record {
      geometry = Some (values.simple s);
      text = opened ∙ ap (λ (t : List ℕ). codes "{\"coordinates\":" ++ t) h.text
          ∙ regrouped (codes "{\"coordinates\":") (compact_text (coordinates_data s)) (codes ",\"type\":\"") (name_of s) (codes "\"}") after
          ∙ ap (λ (t : List ℕ). t ++ after) (simple_text_is s);
      made = h.made;
      few = h.few;
      oriented = h.oriented;
      reaches = ap Some h.reaches;
    }

pub null_front : (before after : List ℕ) → before ≡ codes "null" ++ after → IsGeometryFront before after None
null_front before after text = record {
  geometry = None;
  text = text;
  made = tt;
  few = omega arith;
  oriented = refl;
  reaches = refl;
}
