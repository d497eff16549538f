-- Chunks that are counted whole.
use Rattle.std.proofs.Common.{◌≡◌, ℕ, suc, ℤ, ◌+◌, List, [], ◌∷◌, ◌++◌, Bool, true, false, cond, Option, None, Some, All, option_map, get_or, length, refl, sym}
use Rattle.std.proofs.Common.{ap, subst, ◌∙◌, arith}
use Rattle.std.specs.Prelude.{◌||◌, ◌&&◌, is_some, is_none}
use Rattle.std.specs.List.{count_by}
use Rattle.std.proofs.lemmas.Bool.{both_ways}
use Rattle.std.proofs.lemmas.List.Sums.{sum_by-cons}
use Rattle.std.proofs.lemmas.List.Elements.{filter-append, All-nil, All-cons, All-head, All-tail, All-filter}
use Rattle.streetmap_grid.specs.Values.{BoxValue, GeometryValue}
use Rattle.streetmap_grid.specs.Views.{box_value}
use Rattle.streetmap_grid.specs.Extent.{extent_of}
use Rattle.streetmap_grid.specs.Meeting.{geometry_meets}
use Rattle.streetmap_grid.specs.declared.grid_box.GridBox.{GridBox}
use Rattle.streetmap_moment.specs.Meeting.{meets, seconds_overlap}
use Rattle.streetmap_geojson.specs.FeatureValue.{FeatureValue}
use Rattle.streetmap_geojson.specs.FeatureInvariant.{IsFeature}
use Rattle.streetmap_query.specs.Views.{query_value}
use Rattle.streetmap_query.specs.declared.queries.Query.{Query}
use Rattle.streetmap_ledger.specs.State.{Features}
use Rattle.streetmap_ledger.specs.Outlines.{FeatureOutlineValue}
use Rattle.streetmap_ledger.specs.Pages.{passes, extent_overlaps, requested_interval, selects, selected, comes_after, is_candidate, candidates}
use Rattle.streetmap_ledger.specs.Folds.{IsFoldOf, AreHidden}
use Rattle.streetmap_ledger.specs.declared.fold.PageFold.{PageFold}
use Rattle.streetmap_ledger.specs.declared.outline.FeatureOutline.{FeatureOutline}
use Rattle.streetmap_ledger.proofs.Examining.{selected_are_candidates, candidates_selected}
use Rattle.streetmap_cells.specs.Envelopes.{IsEnvelopeOf, overlaps}
use Rattle.streetmap_cells.specs.declared.envelope.Envelope.{Envelope}
use Rattle.streetmap_outlines.specs.Outlines.{IsOutlineOf, IsEntry, Pairs, LiesWithin, IsTimedBy, AllTimedBy, has_extent, IsExtentIf, AreExtentsOf, IsBounded}
use Rattle.streetmap_outlines.specs.Selections.{counts, IsCountedFor, SelectsCandidates, CountsWhole, AllComeAfter, TakesChunk}
use Rattle.streetmap_outlines.specs.Within.{DecidesMeeting}
use Rattle.streetmap_outlines.specs.declared.chunk.Chunk.{Chunk}
use Rattle.streetmap_outlines.proofs.Beside.{off_at_corner, off_window}
use Rattle.streetmap_outlines.proofs.Position.{three_bounds_pass}

-- the features with outlines that a test holds for are selected, and the others are not examined
abbrev IsDecided : Query → (FeatureOutline → Bool) → Features → FeatureOutline → Type 0
IsDecided q w features o = (f : FeatureValue) → IsEntry features o f → (w o ≡ true → selects (query_value q) f ≡ true)
    × (w o ≡ false → is_candidate (query_value q) f ≡ false)

abbrev Selected : Query → FeatureValue → Type 0
Selected q f = selects (query_value q) f ≡ true

-- one more feature, on which a test of its own element decides
one_more : {X : Type 0} (q : Query) (w : X → Bool) (x : X) (f : FeatureValue) (xs : List X) (fs : List FeatureValue) (b : Bool) → w x ≡ b
    → (w x ≡ true → selects (query_value q) f ≡ true) × (w x ≡ false → is_candidate (query_value q) f ≡ false) → IsFeature f
    → SelectsCandidates (query_value q) (count_by w xs) fs → SelectsCandidates (query_value q) (count_by w (x ∷ xs)) (f ∷ fs)
one_more q w x f xs fs true is reported made rest =
    let s = reported.0 is in
    let k : is_candidate (query_value q) f ≡ true = selected_are_candidates q f made s in
    let e : length (candidates (query_value q) fs) ≡ count_by w xs = rest.count in
    let front : length (candidates (query_value q) (f ∷ fs)) ≡ 1 + length (candidates (query_value q) fs) = rw k (omega arith) in
    let back : count_by w (x ∷ xs) ≡ 1 + count_by w xs = sum_by-cons (λ y. cond (w y) 1 0) x xs ∙ ap (λ c. cond c 1 0 + count_by w xs) is in
    record { selected = rw k (All-cons (Selected q) f (candidates (query_value q) fs) s rest.selected); count = omega (arith, e, front, back) }
one_more q w x f xs fs false is reported made rest =
    let k : is_candidate (query_value q) f ≡ false = reported.1 is in
    let e : length (candidates (query_value q) fs) ≡ count_by w xs = rest.count in
    let front : length (candidates (query_value q) (f ∷ fs)) ≡ length (candidates (query_value q) fs) = rw k refl in
    let back : count_by w (x ∷ xs) ≡ 0 + count_by w xs = sum_by-cons (λ y. cond (w y) 1 0) x xs ∙ ap (λ c. cond c 1 0 + count_by w xs) is in
    record { selected = rw k rest.selected; count = omega (arith, e, front, back) }

whole : (q : Query) (w : FeatureOutline → Bool) (features : Features) (os : List FeatureOutline) (fs : List FeatureValue) → All (IsDecided q w features) os →
    Pairs features os fs
    → SelectsCandidates (query_value q) (count_by w os) fs
whole q w features [] [] each pairs = record { selected = All-nil (Selected q); count = refl }
whole q w features [] (f ∷ fs) each pairs = absurd pairs
whole q w features (o ∷ os) [] each pairs = absurd pairs
whole q w features (o ∷ os) (f ∷ fs) each pairs =
    one_more q w o f os fs (w o) refl (All-head (IsDecided q w features) o os each f pairs.0) pairs.0.made
    (whole q w features os fs (All-tail (IsDecided q w features) o os each) pairs.1)

-- if the query has a box, a feature with no extent is not examined
off : (b : Option BoxValue) (e : Option GridBox) (g : Option GeometryValue) (t : Bool) → (is_none b || is_some e) ≡ false → option_map box_value e
    ≡ option_map extent_of g → (passes extent_overlaps g b && t) ≡ false
off None e g t unasked is = absurd cc
off (Some b) (Some e) g t unasked is = absurd cc
off (Some b) None None t unasked is = refl
off (Some b) None (Some g) t unasked is = absurd cc

-- how many features of a chunk are selected, if its bounds and seconds show that all are
pub counts_whole : (q : Query) (chunk : Chunk) → IsBounded chunk
    → ((o : FeatureOutline) (f : FeatureValue) → LiesWithin o.extent chunk.bounds → IsOutlineOf o f → IsFeature f → IsCountedFor (query_value q) o →
    passes geometry_meets f.geometry (query_value q).bbox ≡ true)
    → ((o : FeatureOutline) (f : FeatureValue) → IsTimedBy o.seconds chunk.seconds → IsOutlineOf o f → passes meets f.time (requested_interval (query_value q))
    ≡ true)
    → CountsWhole (query_value q) chunk (count_by (counts (query_value q)) chunk.outlines.items)
counts_whole q chunk bounded covers reaches features fs pairs =
    let v = query_value q in
    let each : All (IsDecided q (counts v) features) chunk.outlines.items = λ k d within f entry.
    let o = get_or chunk.outlines.items k d in (
      λ yes. rw (covers o f (bounded.within k d within) entry.known entry.made yes, reaches o f (bounded.timed k d within) entry.known) refl,
      λ none. off v.bbox o.extent f.geometry (passes seconds_overlap f.time (requested_interval v)) none
          (ap (λ (x : FeatureOutlineValue). x.extent) entry.known),
    ) in
    whole q (counts v) features chunk.outlines.items fs each pairs

counts_each : (os : List FeatureOutline) → count_by (λ (o : FeatureOutline). true) os ≡ length os
counts_each [] = refl
counts_each (o ∷ os) =
    let e = counts_each os in
    let back : count_by (λ (x : FeatureOutline). true) (o ∷ os) ≡ 1 + count_by (λ (x : FeatureOutline). true) os =
    sum_by-cons (λ (x : FeatureOutline). cond true 1 0) o os in
    omega (arith, e, back)

-- all outlines are counted if the query has no box, else those with an extent
pub counts_all : (q : Query) → q.bbox ≡ None → (os : List FeatureOutline) → count_by (counts (query_value q)) os ≡ length os
counts_all q none os = rw none (counts_each os)

pub counts_extents : (q : Query) (area : GridBox) → q.bbox ≡ Some area → (os : List FeatureOutline) → count_by (counts (query_value q)) os
    ≡ count_by has_extent os
counts_extents q area some os = rw some refl

-- ---- chunks whose kept extents decide on all features
module _ (q : Query) (area : GridBox) (window : Envelope) (requested : q.bbox ≡ Some area) (is : IsEnvelopeOf window (box_value area)) where
  -- what overlaps the window meets the box, and what does not is not examined
  reported_by : (e : Envelope) (o : FeatureOutline) (f : FeatureValue) → IsExtentIf e o.extent → DecidesMeeting e window → IsOutlineOf o f → IsFeature f →
      passes meets f.time (requested_interval (query_value q)) ≡ true
      → (overlaps e window ≡ true → selects (query_value q) f ≡ true) × (overlaps e window ≡ false → is_candidate (query_value q) f ≡ false)
  reported_by e o f kept reports known made timed = (
    λ on. rw (
      subst (λ (b : Option GridBox). passes geometry_meets f.geometry (option_map box_value b) ≡ true) (sym requested)
          (meets_box o.extent kept (ap (λ (v : FeatureOutlineValue). v.extent) known) on),
      timed,
    ) refl,
    λ off. off_window (query_value q) window e o f (area, ap (option_map box_value) requested, is) off kept known,
  ) where
    meets_box : (extent : Option GridBox) → IsExtentIf e extent → option_map box_value extent ≡ option_map extent_of f.geometry → overlaps e window ≡ true →
        passes geometry_meets f.geometry (Some (box_value area)) ≡ true
    meets_box None kept same on = absurd (both_ways _ (off_at_corner window e area is kept) on)
    meets_box (Some box) kept same on = three_bounds_pass f.geometry box area e window same made.made kept is (reports on)

  kept_whole : (features : Features) (seconds : Option (ℤ × ℤ)) → ((o : FeatureOutline) (f : FeatureValue) → IsTimedBy o.seconds seconds → IsOutlineOf o f →
      passes meets f.time (requested_interval (query_value q)) ≡ true)
      → (es : List Envelope) (os : List FeatureOutline) (fs : List FeatureValue) → length es ≡ length os → AreExtentsOf es os →
      All (λ e. DecidesMeeting e window) es → AllTimedBy os seconds → Pairs features os fs
      → SelectsCandidates (query_value q) (count_by (λ e. overlaps e window) es) fs
  kept_whole features seconds reaches [] [] [] long kept reported timed pairs = record { selected = All-nil (Selected q); count = refl }
  kept_whole features seconds reaches [] [] (f ∷ fs) long kept reported timed pairs = absurd pairs
  kept_whole features seconds reaches [] (o ∷ os) fs long kept reported timed pairs = absurd (omega arith)
  kept_whole features seconds reaches (e ∷ es) [] fs long kept reported timed pairs = absurd (omega arith)
  kept_whole features seconds reaches (e ∷ es) (o ∷ os) [] long kept reported timed pairs = absurd pairs
  kept_whole features seconds reaches (e ∷ es) (o ∷ os) (f ∷ fs) long kept reported timed pairs =
      let Decides : Envelope → Type 0 = λ e. DecidesMeeting e window in
      let Timed : FeatureOutline → Type 0 = λ o. IsTimedBy o.seconds seconds in
      let entry = pairs.0 in
      one_more q (λ e. overlaps e window) e f es fs (overlaps e window) refl
      (reported_by e o f (kept 0 e o refl refl) (All-head Decides e es reported) entry.known entry.made (reaches o f (All-head Timed o os timed) entry.known))
      entry.made
      (kept_whole features seconds reaches es os fs (omega arith) (λ i x y here there. kept (suc i) x y here there) (All-tail Decides e es reported)
      (All-tail Timed o os timed) pairs.1)

  -- how many of a chunk are selected, if each kept extent shows whether its geometry meets the box
  pub counts_kept : (chunk : Chunk) → IsBounded chunk → length chunk.extents.items ≡ length chunk.outlines.items →
      All (λ e. DecidesMeeting e window) chunk.extents.items
      → ((o : FeatureOutline) (f : FeatureValue) → IsTimedBy o.seconds chunk.seconds → IsOutlineOf o f →
      passes meets f.time (requested_interval (query_value q)) ≡ true)
      → CountsWhole (query_value q) chunk (count_by (λ e. overlaps e window) chunk.extents.items)
  counts_kept chunk bounded long reported reaches features fs pairs = kept_whole features chunk.seconds reaches chunk.extents.items chunk.outlines.items fs long
      bounded.extents reported bounded.timed pairs

made_all : (features : Features) (os : List FeatureOutline) (fs : List FeatureValue) → Pairs features os fs → All IsFeature fs
made_all features [] [] pairs = All-nil IsFeature
made_all features [] (f ∷ fs) pairs = absurd pairs
made_all features (o ∷ os) [] pairs = absurd pairs
made_all features (o ∷ os) (f ∷ fs) pairs = All-cons IsFeature f fs pairs.0.made (made_all features os fs pairs.1)

abbrev IsAfter : Query → Bool → FeatureValue → Type 0
IsAfter q b f = comes_after (query_value q).after f ≡ b

abbrev IsOutlineAfter : Query → Bool → FeatureOutline → Type 0
IsOutlineAfter q b o = (f : FeatureValue) → IsOutlineOf o f → comes_after (query_value q).after f ≡ b

all_after : (q : Query) (b : Bool) (features : Features) (os : List FeatureOutline) (fs : List FeatureValue) → Pairs features os fs →
    AllComeAfter (query_value q) b os → All (IsAfter q b) fs
all_after q b features [] [] pairs after = All-nil (IsAfter q b)
all_after q b features [] (f ∷ fs) pairs after = absurd pairs
all_after q b features (o ∷ os) [] pairs after = absurd pairs
all_after q b features (o ∷ os) (f ∷ fs) pairs after =
    All-cons (IsAfter q b) f fs (All-head (IsOutlineAfter q b) o os after f pairs.0.known)
    (all_after q b features os fs pairs.1 (All-tail (IsOutlineAfter q b) o os after))

-- the fold holds the candidates of a chunk too, if it holds the hidden features that they are
pub takes_chunk : (q : Query) (old new : PageFold) (chunk : Chunk) (count : ℕ) (b : Bool) → CountsWhole (query_value q) chunk count →
    AllComeAfter (query_value q) b chunk.outlines.items
    → ((fs gs : List FeatureValue) → IsFoldOf (query_value q) old fs → AreHidden (query_value q) b gs → length gs ≡ count →
    IsFoldOf (query_value q) new (fs ++ gs)) → TakesChunk (query_value q) chunk old new
takes_chunk q old new chunk count b counted after takes features met fs pairs held =
    let v = query_value q in
    let of = counted features fs pairs in
    let following = All-filter (is_candidate v) (IsAfter q b) fs (all_after q b features chunk.outlines.items fs pairs after) in
    let hidden : AreHidden v b (candidates v fs) = λ k d within. (of.selected k d within, following k d within) in
    let same : candidates v (met ++ fs) ≡ candidates v met ++ candidates v fs = filter-append (is_candidate v) met fs in
    record {
      holds = subst (IsFoldOf v new) (sym same) (takes (candidates v met) (candidates v fs) held.holds hidden of.count);
      whole =
          ap (selected v) same ∙ (filter-append (selects v) (candidates v met) (candidates v fs)
          ∙ (ap (λ l. l ++ selected v (candidates v fs)) held.whole ∙ (ap (λ l. selected v met ++ l)
          (candidates_selected q fs (made_all features chunk.outlines.items fs pairs)) ∙ sym (filter-append (selects v) met fs))));
    }
