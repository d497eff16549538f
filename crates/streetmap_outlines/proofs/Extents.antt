-- What outlines show of their collection.
use Rattle.std.proofs.Common.{◌≡◌, List, [], ◌∷◌, ◌++◌, Option, None, Some, refl, sym, ap, subst, ◌∙◌, append_assoc, append-nil}
use Rattle.std.specs.Prelude.{unwrap_or}
use Rattle.std.specs.Option.{option_map, option_map_or}
use Rattle.std.proofs.lemmas.List.{flat_map_more}
use Rattle.streetmap_grid.specs.declared.grid_box.GridBox.{GridBox}
use Rattle.streetmap_grid.specs.Values.{PositionValue, GeometryValue}
use Rattle.streetmap_grid.specs.Views.{box_value}
use Rattle.streetmap_grid.specs.Extent.{IsExtent, vertices, extent_of, positions_extent}
use Rattle.streetmap_grid.specs.Bounds.{AreBounds}
use Rattle.streetmap_grid.proofs.Growing.{same_extent, positions_extent_is, extent_is}
use Rattle.streetmap_geojson.specs.FeatureValue.{FeatureValue}
use Rattle.streetmap_geojson.specs.FeatureInvariant.{IsGeometryIf}
use Rattle.streetmap_ledger.specs.State.{Features}
use Rattle.streetmap_ledger.specs.Summaries.{SummaryValue, extent_if, feature_vertices, all_vertices}
use Rattle.streetmap_ledger.specs.Outlines.{FeatureOutlineValue}
use Rattle.streetmap_ledger.specs.declared.outline.FeatureOutline.{FeatureOutline}
use Rattle.streetmap_outlines.specs.Outlines.{Pairs}
use Rattle.streetmap_outlines.proofs.Pairing.{parted}

-- the bounds of a feature's positions
feature_bounds : (o : Option GridBox) (g : Option GeometryValue) → IsGeometryIf g → option_map box_value o ≡ option_map extent_of g →
    AreBounds (option_map_or vertices g []) o
feature_bounds None None h e = refl
feature_bounds None (Some v) h e = absurd cc
feature_bounds (Some b) None h e = absurd cc
feature_bounds (Some b) (Some v) h e = subst (IsExtent (vertices v)) (sym (ap (λ o. unwrap_or o (box_value b)) e)) (extent_is v h)

-- bounds are the extent
pub bounds_extent : (ps : List PositionValue) (o : Option GridBox) → AreBounds ps o → option_map box_value o ≡ extent_if ps
bounds_extent ps None e = ap extent_if (sym e)
bounds_extent [] (Some g) h = absurd h.west
bounds_extent (p ∷ ps) (Some g) h = ap (λ x. Some x) (same_extent (p ∷ ps) (box_value g) (positions_extent (p ∷ ps)) h (positions_extent_is p ps))

-- two summaries of one id, title, time property and extent
pub same_summary : (x y : SummaryValue) → x.id ≡ y.id → x.title ≡ y.title → x.time ≡ y.time → x.extent ≡ y.extent → x ≡ y
same_summary x y i t p e =
    ap (λ a. record { id = a; title = x.title; time = x.time; extent = x.extent }) i ∙ (ap
    (λ a. record { id = y.id; title = a; time = x.time; extent = x.extent }) t
    ∙ (ap (λ a. record { id = y.id; title = y.title; time = a; extent = x.extent }) p ∙ ap
    (λ a. record { id = y.id; title = y.title; time = y.time; extent = a }) e))

-- some of all features were met, the bounds are of them and of these positions; the others are left
pub record Growing (ps : List PositionValue) (bounds : Option GridBox) (features : Features) (all : List FeatureValue) (rest : List FeatureOutline) : Type 0
  where
    pub met : List FeatureValue
    pub left : List FeatureValue
    pub whole : met ++ left ≡ all
    pub pairs : Pairs features rest left
    pub bounds_are : AreBounds (ps ++ all_vertices met) bounds

more_vertices : (ps : List PositionValue) (o : Option GridBox) (met : List FeatureValue) (f : FeatureValue) →
    AreBounds ((ps ++ all_vertices met) ++ feature_vertices f) o → AreBounds (ps ++ all_vertices (met ++ f ∷ [])) o
more_vertices ps o met f h = subst (λ vs. AreBounds vs o) (append_assoc ps (all_vertices met) (feature_vertices f)
    ∙ ap (λ vs. ps ++ vs) (flat_map_more feature_vertices [] met f)) h

pub grows_on : (ps : List PositionValue) (old new : Option GridBox) (features : Features) (all : List FeatureValue) (o : FeatureOutline)
    (rest : List FeatureOutline) → Growing ps old features all (o ∷ rest)
    → ((vs qs : List PositionValue) → AreBounds vs old → AreBounds qs o.extent → AreBounds (vs ++ qs) new) → Growing ps new features all rest
grows_on ps old new features all o rest growing wider = by growing.left growing.whole growing.pairs where
  by : (left : List FeatureValue) → growing.met ++ left ≡ all → Pairs features (o ∷ rest) left → Growing ps new features all rest
  by [] whole pairs = absurd pairs
  by (f ∷ fs) whole pairs = record {
    met = growing.met ++ f ∷ [];
    left = fs;
    whole = append_assoc growing.met (f ∷ []) fs ∙ whole;
    pairs = pairs.1;
    bounds_are = more_vertices ps new growing.met f
        (wider (ps ++ all_vertices growing.met) (feature_vertices f) growing.bounds_are
        (feature_bounds o.extent f.geometry pairs.0.made.made (ap (λ (v : FeatureOutlineValue). v.extent) pairs.0.known)));
  }

all_grown : (ps : List PositionValue) (o : Option GridBox) (met fs : List FeatureValue) → AreBounds ((ps ++ all_vertices met) ++ all_vertices fs) o →
    AreBounds (ps ++ all_vertices (met ++ fs)) o
all_grown ps o met fs h = subst (λ vs. AreBounds vs o) (append_assoc ps (all_vertices met) (all_vertices fs) ∙ ap (λ vs. ps ++ vs) (flat_both met fs)) h where
  flat_both : (met fs : List FeatureValue) → all_vertices met ++ all_vertices fs ≡ all_vertices (met ++ fs)
  flat_both [] fs = refl
  flat_both (f ∷ met) fs = append_assoc (feature_vertices f) (all_vertices met) (all_vertices fs) ∙ ap (λ vs. feature_vertices f ++ vs) (flat_both met fs)

pub grows_after : (ps : List PositionValue) (old new : Option GridBox) (features : Features) (all : List FeatureValue) (front rest : List FeatureOutline) →
    Growing ps old features all (front ++ rest)
    → ((vs : List PositionValue) (fs : List FeatureValue) → Pairs features front fs → AreBounds vs old → AreBounds (vs ++ all_vertices fs) new) →
    Growing ps new features all rest
grows_after ps old new features all front rest growing wider =
    let parts = parted features front rest growing.left growing.pairs in
    record {
      met = growing.met ++ parts.firsts;
      left = parts.others;
      whole = append_assoc growing.met parts.firsts parts.others ∙ (ap (λ xs. growing.met ++ xs) parts.whole ∙ growing.whole);
      pairs = parts.other_pairs;
      bounds_are = all_grown ps new growing.met parts.firsts (wider (ps ++ all_vertices growing.met) parts.firsts parts.first_pairs growing.bounds_are);
    }

-- if no outline is left these are the bounds of all
pub all_bounds : (ps : List PositionValue) (o : Option GridBox) (features : Features) (all : List FeatureValue) → Growing ps o features all [] →
    AreBounds (ps ++ all_vertices all) o
all_bounds ps o features all growing = by growing.left growing.whole growing.pairs where
  by : (left : List FeatureValue) → growing.met ++ left ≡ all → Pairs features [] left → AreBounds (ps ++ all_vertices all) o
  by [] whole pairs = subst (λ fs. AreBounds (ps ++ all_vertices fs) o) (sym (append-nil growing.met) ∙ whole) growing.bounds_are
  by (f ∷ fs) whole pairs = absurd pairs
