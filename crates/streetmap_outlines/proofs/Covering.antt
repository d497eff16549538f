-- Extents within bounds, and what bounds off a box show of them.
use Rattle.std.proofs.Common.{◌≡◌, ℤ, ◌≤ℤ◌, List, [], ◌∷◌, ◌++◌, Option, None, Some, false, All, option_map, refl, sym, ap, subst, ◌∙◌, append_assoc}
use Rattle.std.proofs.Common.{append-nil, arith}
use Rattle.std.specs.Int.{int_max, int_min}
use Rattle.std.proofs.lemmas.Int.{ints, clamps}
use Rattle.std.proofs.lemmas.List.Elements.{All-head, All-tail, All-weaker}
use Rattle.streetmap_grid.specs.declared.grid_box.GridBox.{GridBox}
use Rattle.streetmap_grid.specs.Values.{BoxValue, GeometryValue, multi_point, simple}
use Rattle.streetmap_grid.specs.Views.{box_value}
use Rattle.streetmap_grid.specs.Extent.{extent_of, union, overlaps, Overlaps, IsWithin}
use Rattle.streetmap_grid.proofs.Facts.{box_facts}
use Rattle.streetmap_grid.proofs.Growing.{made_box}
use Rattle.streetmap_grid.proofs.LawProofs.{overlap_test_is_relation}
use Rattle.streetmap_geojson.specs.FeatureValue.{FeatureValue}
use Rattle.streetmap_query.specs.Views.{query_value}
use Rattle.streetmap_query.specs.declared.queries.Query.{Query}
use Rattle.streetmap_ledger.specs.State.{Features}
use Rattle.streetmap_ledger.specs.Pages.{passes, extent_overlaps, is_candidate}
use Rattle.streetmap_ledger.specs.Folds.{HoldsCandidates}
use Rattle.streetmap_ledger.specs.declared.fold.PageFold.{PageFold}
use Rattle.streetmap_ledger.specs.declared.outline.FeatureOutline.{FeatureOutline}
use Rattle.streetmap_ledger.proofs.Examining.{left_out, refuted}
use Rattle.streetmap_outlines.specs.Outlines.{IsOutlineOf, LiesWithin, AllLieWithin}
use Rattle.streetmap_outlines.specs.Outlines.{Pairs}

lies_too : (e one all : Option GridBox) → LiesWithin e one → LiesWithin one all → LiesWithin e all
lies_too None one all h k = tt
lies_too (Some e) None all h k = absurd h
lies_too (Some e) (Some one) None h k = absurd k
lies_too (Some e) (Some one) (Some all) h k = λ x y held. k x y (h x y held)

-- what lies within bounds lies within those that they lie within
pub lie_too : (os : List FeatureOutline) (old new : Option GridBox) → AllLieWithin os old → LiesWithin old new → AllLieWithin os new
lie_too os old new h k = All-weaker (λ (o : FeatureOutline). LiesWithin o.extent old) (λ o. LiesWithin o.extent new)
    (λ o held. lies_too o.extent old new held k) os h

pub in_union : (a b c : BoxValue) → c ≡ union a b → IsWithin a c × IsWithin b c
in_union a b c is = subst (λ g. IsWithin a g × IsWithin b g) (sym is) (
  λ x y held. (omega (arith, ints, clamps, held), omega (arith, ints, clamps, held), omega (arith, ints, clamps, held), omega (arith, ints, clamps, held)),
  λ x y held. (omega (arith, ints, clamps, held), omega (arith, ints, clamps, held), omega (arith, ints, clamps, held), omega (arith, ints, clamps, held)),
)

-- two opposite corners of a box
abbrev corners : GridBox → GeometryValue
corners g = simple (multi_point (record { x = g.x0; y = g.y0; z = None } ∷ (record { x = g.x1; y = g.y1; z = None } ∷ [])))

-- a geometry with these bounds
abbrev pub spanning : Option GridBox → Option GeometryValue
spanning bounds = option_map corners bounds

least : (a b : ℤ) → a ≤ℤ b → a ≡ int_min a b
least a b h = omega (arith, ints, clamps, h)

greatest : (a b : ℤ) → a ≤ℤ b → b ≡ int_max a b
greatest a b h = omega (arith, ints, clamps, h)

pub spanning_extent : (bounds : Option GridBox) → option_map box_value bounds ≡ option_map extent_of (spanning bounds)
unfolding extent_of
spanning_extent None = refl
spanning_extent (Some g) = ap (λ b. Some b) (made_box (box_value g) (extent_of (corners g)) (least g.x0 g.x1 g.wide) (least g.y0 g.y1 g.tall)
    (greatest g.x0 g.x1 g.wide) (greatest g.y0 g.y1 g.tall))

overlap_too : (e b area : BoxValue) → IsWithin e b → Overlaps e area → Overlaps b area
overlap_too e b area within (x, (y, (h, k))) = (x, (y, (within x y h, k)))

-- what lies within a box that is off another one is off it
off_too : (e b area : GridBox) → IsWithin (box_value e) (box_value b) → overlaps (box_value b) (box_value area) ≡ false →
    overlaps (box_value e) (box_value area) ≡ false
off_too e b area within off = refuted _ (λ on.
    let test = λ (g : GridBox). overlap_test_is_relation (box_value g) (box_value area) (box_facts g) (box_facts area) in
    let too = (test b).1 (overlap_too (box_value e) (box_value b) (box_value area) within ((test e).0 on)) in
    cc (too, off))

pub none_passes : (e bounds area : Option GridBox) (g h : Option GeometryValue) → LiesWithin e bounds → option_map box_value e ≡ option_map extent_of g →
    option_map box_value bounds ≡ option_map extent_of h
    → passes extent_overlaps h (option_map box_value area) ≡ false → passes extent_overlaps g (option_map box_value area) ≡ false
none_passes e bounds None g h within is are off = absurd cc
none_passes None bounds (Some area) None h within is are off = refl
none_passes None bounds (Some area) (Some v) h within is are off = absurd cc
none_passes (Some e) bounds (Some area) None h within is are off = absurd cc
none_passes (Some e) None (Some area) (Some v) h within is are off = absurd within
none_passes (Some e) (Some b) (Some area) (Some v) None within is are off = absurd cc
none_passes (Some e) (Some b) (Some area) (Some v) (Some w) within is are off =
    let one : box_value e ≡ extent_of v = cc in
    let all : box_value b ≡ extent_of w = cc in
    ap (λ x. overlaps x (box_value area)) (sym one) ∙ off_too e b area within (ap (λ x. overlaps x (box_value area)) all ∙ off)

-- features that are no candidates add nothing
pub passed_over : (P : FeatureOutline → Type 0) (q : Query) (fold : PageFold) (features : Features) →
    ((o : FeatureOutline) (f : FeatureValue) → P o → IsOutlineOf o f → is_candidate (query_value q) f ≡ false)
    → (os : List FeatureOutline) → All P os → (met fs : List FeatureValue) → Pairs features os fs → HoldsCandidates (query_value q) fold met →
    HoldsCandidates (query_value q) fold (met ++ fs)
passed_over P q fold features off [] within met [] pairs held = subst (HoldsCandidates (query_value q) fold) (sym (append-nil met)) held
passed_over P q fold features off [] within met (f ∷ fs) pairs held = absurd pairs
passed_over P q fold features off (o ∷ os) within met [] pairs held = absurd pairs
passed_over P q fold features off (o ∷ os) within met (f ∷ fs) pairs held =
    subst (HoldsCandidates (query_value q) fold) (append_assoc met (f ∷ []) fs)
    (passed_over P q fold features off os (All-tail P o os within) (met ++ f ∷ []) fs pairs.1
    (left_out q fold met f pairs.0.made (off o f (All-head P o os within) pairs.0.known) held))
