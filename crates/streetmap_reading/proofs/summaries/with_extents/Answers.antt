use Rattle.std.proofs.Common.{◌∙◌, ap, subst, length, arith, rules}
use Rattle.std.specs.Vec.Iter.{into_iter_items}
use Rattle.std.proofs.lemmas.Result.{err_from_is_err_and}
use Rattle.sqlite.specs.Held.{state}
use Rattle.sqlite.proofs.Callers.{unchanged_then}
use Rattle.streetmap_rows.proofs.ResultCases.{handed_on}
use Rattle.streetmap_rows.proofs.ReadsInTurn.{stopped_on, survives_both}
use Rattle.streetmap_reading.proofs.CollectionsInTurn.{SoFar, begins, goes_on, reported_all, none_left, early, limited, kept}
use Rattle.streetmap_reading.proofs.summaries.with_extents.Goals as goal

pub loop-head-init : goal.loop-head-init
loop-head-init g c =
    let gives = c.into_iter-head-iterator.ensures.into_iter_gives in
    let long = ap length gives.0 in (
      search rules,
      search rules,
      omega (arith, long, gives.1, c.args.heads.ok),
      λ h. h,
      begins (state g.S.Store c.args.conn.now) c.args.heads.items (into_iter_items c.into_iter-head-iterator.result) c.new-summaries.result.items gives.0
          c.new-summaries.ensures.items,
    )

pub loop-head-preserved : goal.loop-head-preserved
loop-head-preserved g c =
    let so = subst (λ l. SoFar (state g.S.Store c.args.conn.now) (state g.S.Store c.loop-head.conn) c.args.heads.items l c.loop-head.summaries.items)
    c.in-Some.ensures.steps.0 c.loop-head.invariant.4 in
    let long = ap length c.in-Some.ensures.steps.0 in (
      search rules,
      search rules,
      omega (arith, long, c.in-Some.ensures.steps.1, c.loop-head.invariant.2),
      λ h. c.with_extent.ensures.mode (c.loop-head.invariant.3 h),
      goes_on _ _ (state g.S.Store c.with_extent.new.conn) _ c.in-Some.head _ _ c.push.new.self.items c.in_ok-summary.summary so c.with_extent.ensures.survives
          c.with_extent.ensures.stays c.in_ok-summary.ensures.shows c.in_ok-push.ensures.items,
    )

pub returns-in_err-summary : goal.returns-in_err-summary
returns-in_err-summary g c = record {
  shows = λ clean live s limit keeps.
      let so = subst (λ l. SoFar (state g.S.Store c.args.conn.now) (state g.S.Store c.loop-head.conn) c.args.heads.items l c.loop-head.summaries.items)
      c.in-Some.ensures.steps.0 c.loop-head.invariant.4 in
      let new = state g.S.Store c.with_extent.new.conn in
      let before = early _ _ new _ _ _ _ so c.with_extent.ensures.survives s limit keeps clean in
      handed_on _ _ _ _ c.from_residual.ensures.1 (stopped_on _ _ new _ (so.unchanged before s limit keeps live) c.loop-head.invariant.4.survives.counts
      (c.in_err-summary.ensures.shows clean s (limited _ _ new _ _ _ _ so c.with_extent.ensures.survives s limit keeps clean)
      (kept _ _ new _ _ _ _ so c.with_extent.ensures.survives s limit keeps clean)));
  mode = λ h. c.with_extent.ensures.mode (c.loop-head.invariant.3 h);
  survives = survives_both _ _ _ c.loop-head.invariant.4.survives c.with_extent.ensures.survives;
  stays =
      λ clean s limit keeps trees leaves.
      let so = subst (λ l. SoFar (state g.S.Store c.args.conn.now) (state g.S.Store c.loop-head.conn) c.args.heads.items l c.loop-head.summaries.items)
      c.in-Some.ensures.steps.0 c.loop-head.invariant.4 in
      let new = state g.S.Store c.with_extent.new.conn in
      so.stays (early _ _ new _ _ _ _ so c.with_extent.ensures.survives s limit keeps clean) s limit keeps trees
      (c.with_extent.ensures.stays clean s (limited _ _ new _ _ _ _ so c.with_extent.ensures.survives s limit keeps clean)
      (kept _ _ new _ _ _ _ so c.with_extent.ensures.survives s limit keeps clean) trees leaves);
}

pub returns-in_err-push : goal.returns-in_err-push
returns-in_err-push g c = record {
  shows = λ clean live s limit keeps.
      let so = subst (λ l. SoFar (state g.S.Store c.args.conn.now) (state g.S.Store c.loop-head.conn) c.args.heads.items l c.loop-head.summaries.items)
      c.in-Some.ensures.steps.0 c.loop-head.invariant.4 in
      let new = state g.S.Store c.with_extent.new.conn in
      let before = early _ _ new _ _ _ _ so c.with_extent.ensures.survives s limit keeps clean in
      let same = unchanged_then _ _ new (so.unchanged before s limit keeps live)
      (c.in_ok-summary.ensures.shows clean s (limited _ _ new _ _ _ _ so c.with_extent.ensures.survives s limit keeps clean)
      (kept _ _ new _ _ _ _ so c.with_extent.ensures.survives s limit keeps clean)).1 in
      let p = err_from_is_err_and c.from_residual-in_err-push.result c.from_residual-in_err-push.ensures.1 in rw (p.1, p.2) same;
  mode = λ h. c.with_extent.ensures.mode (c.loop-head.invariant.3 h);
  survives = survives_both _ _ _ c.loop-head.invariant.4.survives c.with_extent.ensures.survives;
  stays =
      λ clean s limit keeps trees leaves.
      let so = subst (λ l. SoFar (state g.S.Store c.args.conn.now) (state g.S.Store c.loop-head.conn) c.args.heads.items l c.loop-head.summaries.items)
      c.in-Some.ensures.steps.0 c.loop-head.invariant.4 in
      let new = state g.S.Store c.with_extent.new.conn in
      so.stays (early _ _ new _ _ _ _ so c.with_extent.ensures.survives s limit keeps clean) s limit keeps trees
      (c.with_extent.ensures.stays clean s (limited _ _ new _ _ _ _ so c.with_extent.ensures.survives s limit keeps clean)
      (kept _ _ new _ _ _ _ so c.with_extent.ensures.survives s limit keeps clean) trees leaves);
}

pub returns : goal.returns
returns g c = record {
  shows = λ clean live s limit keeps.
      let so = c.loop-head.invariant.4 in
      let none = none_left (into_iter_items c.loop-head.head-iterator) (c.loop-head.invariant.2 ∙ c.in-None.ensures.steps.0) in (
        λ are. reported_all s (into_iter_items c.loop-head.head-iterator) c.loop-head.summaries.items none (so.reports clean s limit keeps are),
        so.unchanged clean s limit keeps live,
      );
  mode = λ h. c.loop-head.invariant.3 h;
  survives = c.loop-head.invariant.4.survives;
  stays = c.loop-head.invariant.4.stays;
}
