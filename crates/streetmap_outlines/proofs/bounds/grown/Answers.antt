use Rattle.std.proofs.Common.{◌≡◌, ◌<◌, ◌+◌, ℕ, List, [], ◌∷◌, ◌++◌, Option, length, drop, take, get_or, refl, ap, sym, subst, ◌∙◌, arith, append-nil}
use Rattle.std.proofs.lemmas.List.{drop_more, drop_all, take_all}
use Rattle.std.proofs.lemmas.List.Elements.{All-nil, All-more}
use Rattle.streetmap_grid.specs.Bounds.{AreBounds}
use Rattle.streetmap_grid.specs.Values.{PositionValue}
use Rattle.streetmap_grid.specs.declared.grid_box.GridBox.{GridBox}
use Rattle.streetmap_ledger.specs.declared.outline.FeatureOutline.{FeatureOutline}
use Rattle.streetmap_outlines.specs.Outlines.{LiesWithin, AllLieWithin}
use Rattle.streetmap_outlines.proofs.Covering.{lie_too}
use Rattle.streetmap_outlines.proofs.Extents.{Growing, grows_on, all_bounds}
use Rattle.streetmap_outlines.proofs.bounds.grown.Goals as goal

-- the outline that comes next
turn : (os : List FeatureOutline) (i : ℕ) (o : FeatureOutline) → i < length os → o ≡ get_or os i o → drop i os ≡ o ∷ drop (i + 1) os
turn os i o within is = drop_more os i o within ∙ ap (λ (x : FeatureOutline). x ∷ drop (i + 1) os) (sym is)

pub loop-outline-init : goal.loop-outline-init
loop-outline-init c = record {
  exact = λ features ps fs pairs bounds. record {
    met = [];
    left = fs;
    whole = refl {a = fs};
    pairs = pairs;
    bounds_are =
        subst (λ vs. AreBounds vs c.args.bounds) (sym (append-nil ps)) bounds;
  };
  within = All-nil (λ (o : FeatureOutline). LiesWithin o.extent c.args.bounds);
}

pub loop-outline-preserved : goal.loop-outline-preserved
loop-outline-preserved c =
    let inv = c.loop-outline.invariant in
    let os = c.args.outlines.now in
    let i = c.loop-outline.outline-index in
    let o = c.outline-item.result in
    let old = c.loop-outline.bounds in
    let new = c.bounds_of_both-bounds.result in
    let says = c.bounds_of_both-bounds.ensures in
    let exact = subst (λ (e : Option GridBox). (vs qs : List PositionValue) → AreBounds vs old → AreBounds qs e → AreBounds (vs ++ qs) new) c.extent.ensures
    says.exact in
    let other = subst (λ (e : Option GridBox). LiesWithin e new) c.extent.ensures says.other in
    let In : FeatureOutline → Type 0 = λ o. LiesWithin o.extent new in
    record {
      exact = λ features ps fs pairs bounds. grows_on ps old new features fs o (drop (i + 1) os)
          (subst (Growing ps old features fs) (turn os i o (omega arith) c.outline-item.is) (inv.exact features ps fs pairs bounds)) exact;
      within = All-more In os i o (omega arith) (lie_too (take i os) old new inv.within says.one) (subst In c.outline-item.is other);
    }

pub returns-clause-exact : goal.returns-clause-exact
returns-clause-exact c = λ features ps fs pairs bounds.
    let os = c.args.outlines.now in
    all_bounds ps c.loop-outline.bounds features fs (subst (Growing ps c.loop-outline.bounds features fs)
    (drop_all c.loop-outline.outline-index os (omega arith)) (c.loop-outline.invariant.exact features ps fs pairs bounds))

pub returns-clause-within : goal.returns-clause-within
returns-clause-within c =
    let os = c.args.outlines.now in
    subst (λ xs. AllLieWithin xs c.loop-outline.bounds) (take_all c.loop-outline.outline-index os (omega arith)) c.loop-outline.invariant.within
