-- The extents of outlines beside one another, and the outlines that a page passes over for them.
use Rattle.std.proofs.Common.{◌≡◌, ◌<◌, ℕ, List, [], ◌∷◌, ◌++◌, Option, None, Some, false, option_map, slice_get, get_or, length, refl, ap, sym, subst, ◌∙◌}
use Rattle.std.proofs.Common.{inl, inr, length-append, arith}
use Rattle.std.specs.Prelude.{nat_le}
use Rattle.std.proofs.lemmas.Int.{ints}
use Rattle.std.proofs.lemmas.Bool.{cases_lt, false_from_ne_true, both_ways, and_parts, lt-leb}
use Rattle.std.proofs.lemmas.List.{get_or_append_left}
use Rattle.std.proofs.lemmas.Option.{get_or_from_slice_get, slice_get-get_or, slice_get_read, slice_get_within}
use Rattle.std.proofs.Math.Seq.{get_or-append_seam}
use Rattle.streetmap_grid.specs.declared.grid_box.GridBox.{GridBox}
use Rattle.streetmap_grid.specs.Values.{GeometryValue}
use Rattle.streetmap_grid.specs.Views.{box_value}
use Rattle.streetmap_grid.specs.Extent.{extent_of, overlaps as boxes_overlap}
use Rattle.streetmap_geojson.specs.FeatureValue.{FeatureValue}
use Rattle.streetmap_query.specs.QueryValue.{QueryValue}
use Rattle.streetmap_ledger.specs.Pages.{passes, extent_overlaps, is_candidate}
use Rattle.streetmap_ledger.specs.Outlines.{FeatureOutlineValue}
use Rattle.streetmap_ledger.specs.declared.outline.FeatureOutline.{FeatureOutline}
use Rattle.streetmap_cells.specs.Envelopes.{IsEnvelopeOf, overlaps}
use Rattle.streetmap_cells.proofs.Envelopes.{same_overlap}
use Rattle.streetmap_cells.specs.declared.envelope.Envelope.{Envelope}
use Rattle.streetmap_outlines.specs.Outlines.{IsOutlineOf, IsExtentIf, AreExtentsOf}
use Rattle.streetmap_outlines.specs.Selections.{IsWindowOf}

-- ---- one more
module _ (es : List Envelope) (os : List FeatureOutline) (i : ℕ) (e : Envelope) (o : FeatureOutline) (len : length es ≡ i) (within : i < length os)
    (is : o ≡ get_or os i o) where
  -- the outline in the last place
  last_is : (y : FeatureOutline) (k : ℕ) → k ≡ i → slice_get os k ≡ Some y → o ≡ y
  last_is y k at there =
      let same : Some o ≡ Some y = sym (slice_get_read os (length os) i o refl within is) ∙ (ap (slice_get os) (sym at) ∙ there) in
      cc

  pub one_more : AreExtentsOf es os → IsExtentIf e o.extent → AreExtentsOf (es ++ e ∷ []) os
  one_more kept one k x y here there = elim (cases_lt k (length es)) [
    | inl before ↦ kept k x y (slice_get-get_or es k x before ∙ ap (λ v. Some v) (sym (get_or_append_left es (e ∷ []) x k before)
        ∙ get_or_from_slice_get (es ++ e ∷ []) k x x here)) there
    | inr following ↦
        let less : k < length (es ++ e ∷ []) = slice_get_within (es ++ e ∷ []) k x here in
        let at : k ≡ length es = omega (arith, less, following, length-append es (e ∷ [])) in
        let new : e ≡ x = sym (get_or-append_seam es e [] x) ∙ (ap (λ n. get_or (es ++ e ∷ []) n x) (sym at) ∙ get_or_from_slice_get (es ++ e ∷ []) k x x here)
        in
        subst (λ v. IsExtentIf v y.extent) new (subst (λ (v : FeatureOutline). IsExtentIf e v.extent) (last_is y k (at ∙ len) there) one)
  ]

-- ---- off the window

module _ (window e : Envelope) (area : GridBox) (requested : IsEnvelopeOf window (box_value area)) where
  -- what ends at the corner of the grid overlaps no box
  pub off_at_corner : e.x1 ≡ 0 → overlaps e window ≡ false
  off_at_corner at =
      let corner = requested.west in
      let bound = area.west in
      let far : 0 < window.x0 = omega (arith, ints, corner, bound) in
      let off : nat_le window.x0 e.x1 ≡ false = rw at (lt-leb window.x0 0 far) in
      false_from_ne_true _ (λ on. both_ways (nat_le window.x0 e.x1) off (and_parts _ _ (and_parts _ _ on).1).0)

  -- the kept extent overlaps the window if the geometry's extent overlaps the box
  pub overlaps_as : (extent : Option GridBox) (g : Option GeometryValue) → IsExtentIf e extent → option_map box_value extent ≡ option_map extent_of g →
      overlaps e window ≡ passes extent_overlaps g (Some (box_value area))
  overlaps_as None None kept same = off_at_corner kept
  overlaps_as None (Some v) kept same = absurd cc
  overlaps_as (Some box) None kept same = absurd cc
  overlaps_as (Some box) (Some v) kept same =
      let one : box_value box ≡ extent_of v = cc in
      same_overlap e window (box_value box) (box_value area) kept requested ∙ ap (λ b. boxes_overlap b (box_value area)) one

pub overlaps_requested : (q : QueryValue) (window e : Envelope) (o : FeatureOutline) (f : FeatureValue) → IsWindowOf q (Some window) → IsExtentIf e o.extent →
    IsOutlineOf o f → overlaps e window ≡ passes extent_overlaps f.geometry q.bbox
overlaps_requested q window e o f (area, requested, is) kept known =
    overlaps_as window e area is o.extent f.geometry kept (ap (λ (v : FeatureOutlineValue). v.extent) known)
    ∙ ap (passes extent_overlaps f.geometry) (sym requested)

pub off_window : (q : QueryValue) (window e : Envelope) (o : FeatureOutline) (f : FeatureValue) → IsWindowOf q (Some window) → overlaps e window ≡ false →
    IsExtentIf e o.extent → IsOutlineOf o f → is_candidate q f ≡ false
off_window q window e o f requested off kept known =
    let none : passes extent_overlaps f.geometry q.bbox ≡ false = sym (overlaps_requested q window e o f requested kept known) ∙ off in
    rw none refl
