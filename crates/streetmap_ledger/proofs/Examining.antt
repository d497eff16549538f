-- A feature that is selected is a candidate, and a page of candidates is that of all.
use Rattle.std.proofs.Common.{◌≡◌, ◌⊎◌, inl, inr, All, ℕ, List, [], ◌∷◌, ◌++◌, Bool, true, false, cond, ◌&&◌, Option, None, Some, option_map, length, take}
use Rattle.std.proofs.Common.{refl, sym, ap, subst, ◌∙◌, append-nil}
use Rattle.std.specs.Prelude.{filter, nat_lt, if◌then◌else◌, T}
use Rattle.std.proofs.lemmas.List.Elements.{filter-append, All-head, All-tail}
use Rattle.streetmap_grid.specs.Values.{GeometryValue}
use Rattle.streetmap_grid.specs.Views.{box_value}
use Rattle.streetmap_grid.specs.Meeting.{geometry_meets}
use Rattle.streetmap_grid.specs.Extent.{extent_of, is_within}
use Rattle.streetmap_grid.specs.declared.grid_box.GridBox.{GridBox}
use Rattle.streetmap_grid.proofs.Facts.{box_facts}
use Rattle.streetmap_grid.proofs.LawProofs.{what_meets_overlaps, what_lies_within_meets}
use Rattle.streetmap_moment.specs.IntervalValue.{IntervalValue}
use Rattle.streetmap_moment.specs.Meeting.{meets, seconds_overlap}
use Rattle.streetmap_moment.proofs.IntervalFacts.{interval_facts, meets-seconds_overlap}
use Rattle.streetmap_geojson.specs.FeatureValue.{FeatureValue}
use Rattle.streetmap_geojson.specs.FeatureInvariant.{IsGeometryIf, IsIntervalIf, IsFeature}
use Rattle.streetmap_query.specs.QueryValue.{QueryValue, DatetimeValue}
use Rattle.streetmap_query.specs.Views.{query_value, datetime_value}
use Rattle.streetmap_query.specs.declared.datetimes.Datetime.{Datetime}
use Rattle.streetmap_query.specs.declared.queries.Query.{Query}
use Rattle.streetmap_ledger.specs.Pages.{PageValue, passes, selects, selected, extent_overlaps, is_candidate, candidates, following, last_id, saturated}
use Rattle.streetmap_ledger.specs.Pages.{page_of}
use Rattle.streetmap_ledger.specs.Folds.{IsFoldOf, HoldsCandidates}
use Rattle.streetmap_ledger.specs.Laws.{SelectedAreCandidates}
use Rattle.streetmap_ledger.specs.declared.fold.PageFold.{PageFold}

both : (a b : Bool) → (a && b) ≡ true → (a ≡ true) × (b ≡ true)
both true true h = (refl, refl)
both true false h = absurd cc
both false b h = absurd cc

box_overlaps : (g : Option GeometryValue) (b : Option GridBox) → IsGeometryIf g → passes geometry_meets g (option_map box_value b) ≡ true →
    passes extent_overlaps g (option_map box_value b) ≡ true
box_overlaps g None h e = refl
box_overlaps None (Some b) h e = e
box_overlaps (Some v) (Some b) h e = what_meets_overlaps v (box_value b) h (box_facts b) e

seconds_meet : (t : Option IntervalValue) (d : Option Datetime) → IsIntervalIf t
    → passes meets t (option_map (λ (w : DatetimeValue). w.interval) (option_map datetime_value d)) ≡ true
    → passes seconds_overlap t (option_map (λ (w : DatetimeValue). w.interval) (option_map datetime_value d)) ≡ true
seconds_meet t None h e = refl
seconds_meet None (Some d) h e = e
seconds_meet (Some i) (Some d) h e = meets-seconds_overlap i (datetime_value d).interval h (interval_facts d.interval) e

pub selected_are_candidates : (q : Query) (f : FeatureValue) → IsFeature f → selects (query_value q) f ≡ true → is_candidate (query_value q) f ≡ true
selected_are_candidates q f h e =
    let p = both _ _ e in
    rw (box_overlaps f.geometry q.bbox h.made p.0, seconds_meet f.time q.datetime h.timed p.1) refl

last_is : (p : FeatureValue → Bool) (fs : List FeatureValue) (f : FeatureValue) (b : Bool) → p f ≡ b → filter p (fs ++ f ∷ []) ≡ filter p fs
    ++ cond b (f ∷ []) []
last_is p fs f b e = filter-append p fs (f ∷ []) ∙ ap (λ t. filter p fs ++ cond t (f ∷ []) []) e

pub refuted : (b : Bool) → (b ≡ true → ⊥) → b ≡ false
refuted true h = absurd (h refl)
refuted false h = refl

-- a feature that is no candidate is left out
pub left_out : (q : Query) (fold : PageFold) (fs : List FeatureValue) (f : FeatureValue) → IsFeature f → is_candidate (query_value q) f ≡ false →
    HoldsCandidates (query_value q) fold fs → HoldsCandidates (query_value q) fold (fs ++ f ∷ [])
left_out q fold fs f h e held =
    let v = query_value q in
    let no : selects v f ≡ false = refuted (selects v f) (λ s. subst T (sym (selected_are_candidates q f h s) ∙ e) tt) in
    let same : candidates v (fs ++ f ∷ []) ≡ candidates v fs = last_is (is_candidate v) fs f false e ∙ append-nil (candidates v fs) in
    let shown : selected v (fs ++ f ∷ []) ≡ selected v fs = last_is (selects v) fs f false no ∙ append-nil (selected v fs) in
    record {
      holds = subst (IsFoldOf v fold) (sym same) held.holds;
      whole = ap (selected v) same ∙ (held.whole ∙ sym shown);
    }

-- a candidate is taken
pub taken : (v : QueryValue) (fold : PageFold) (fs : List FeatureValue) (f : FeatureValue) → is_candidate v f ≡ true → selected v (candidates v fs)
    ≡ selected v fs → IsFoldOf v fold (candidates v fs ++ f ∷ []) → HoldsCandidates v fold (fs ++ f ∷ [])
taken v fold fs f e whole held =
    let same : candidates v (fs ++ f ∷ []) ≡ candidates v fs ++ f ∷ [] = last_is (is_candidate v) fs f true e in
    record {
      holds = subst (IsFoldOf v fold) (sym same) held;
      whole = ap (selected v) same ∙ (filter-append (selects v) (candidates v fs) (f ∷ [])
          ∙ (ap (λ l. l ++ selected v (f ∷ [])) whole ∙ sym (filter-append (selects v) fs (f ∷ []))));
    }

-- a page of the selected features
unfoldable paged : QueryValue → ℕ → List FeatureValue → PageValue
paged q n shown = record {
  features = take q.limit (following q.after shown);
  matched = saturated (length shown);
  next = if nat_lt q.limit (length (following q.after shown)) then last_id (take q.limit (following q.after shown)) else None;
  examined = saturated n;
}

pub same_page : (q : QueryValue) (n : ℕ) (cs fs : List FeatureValue) → selected q cs ≡ selected q fs → page_of q n cs ≡ page_of q n fs
unfolding paged
same_page q n cs fs e = ap (paged q n) e

-- a geometry meets the box that its extent lies within
pub within_passes : (g : Option GeometryValue) (e b : GridBox) → Some (box_value e) ≡ option_map extent_of g → IsGeometryIf g →
    is_within (box_value e) (box_value b) ≡ true → passes geometry_meets g (Some (box_value b)) ≡ true
within_passes None e b is h w = cc
within_passes (Some v) e b is h w =
    let same : box_value e ≡ extent_of v = cc in
    what_lies_within_meets v (box_value b) h (box_facts b) (ap (λ x. is_within x (box_value b)) (sym same) ∙ w)

-- the fold's own query is the one that it holds a page of
pub left_out_of : (fold : PageFold) (q : QueryValue) (fs : List FeatureValue) (f : FeatureValue) → IsFeature f → is_candidate (query_value fold.query.now) f
    ≡ false → HoldsCandidates q fold fs → HoldsCandidates q fold (fs ++ f ∷ [])
left_out_of fold q fs f made e held =
    subst (λ v. HoldsCandidates v fold fs → HoldsCandidates v fold (fs ++ f ∷ [])) held.holds.is_for (left_out fold.query.now fold fs f made e) held

pub passed_on : (old new : PageFold) (q : QueryValue) (fs : List FeatureValue) (f : FeatureValue) → is_candidate (query_value old.query.now) f ≡ true →
    (IsFoldOf q old (candidates q fs) → IsFoldOf q new (candidates q fs ++ f ∷ [])) → HoldsCandidates q old fs → HoldsCandidates q new (fs ++ f ∷ [])
passed_on old new q fs f e takes held = taken q new fs f (ap (λ v. is_candidate v f) (sym held.holds.is_for) ∙ e) held.whole (takes held.holds)

known : (b : Bool) → (b ≡ true) ⊎ (b ≡ false)
known true = inl refl
known false = inr refl

-- leaving out what is no candidate leaves out nothing that is selected
pub candidates_selected : (q : Query) (fs : List FeatureValue) → All IsFeature fs → selected (query_value q) (candidates (query_value q) fs)
    ≡ selected (query_value q) fs
candidates_selected q [] made = refl
candidates_selected q (f ∷ fs) made =
    let v = query_value q in
    let rest = candidates_selected q fs (All-tail IsFeature f fs made) in
    elim (known (is_candidate v f)) [
      | inl is ↦ rw is (ap (λ l. cond (selects v f) (f ∷ l) l) rest)
      | inr not ↦
          let off : selects v f ≡ false = refuted (selects v f) (λ s. subst T (sym (selected_are_candidates q f (All-head IsFeature f fs made) s) ∙ not) tt) in
          rw (not, off) rest
    ]

pub page_of_candidates : (q : Query) (n : ℕ) (fs : List FeatureValue) → All IsFeature fs → page_of (query_value q) n (candidates (query_value q) fs)
    ≡ page_of (query_value q) n fs
page_of_candidates q n fs made = same_page (query_value q) n (candidates (query_value q) fs) fs (candidates_selected q fs made)

pub candidates_are_enough : SelectedAreCandidates
candidates_are_enough = (selected_are_candidates, page_of_candidates)
