use Rattle.std.proofs.Common.{length, subst, ap, arith, rules}
use Rattle.std.specs.Vec.Iter.{into_iter_items}
use Rattle.streetmap_index.proofs.Runs.{TakenSoFar, one_more_taken}
use Rattle.streetmap_index.proofs.run.take_all.Goals as goal

pub loop-feature-preserved : goal.loop-feature-preserved
loop-feature-preserved c =
    let inv = c.loop-feature.invariant in
    let all = c.args.features.items in
    let so = subst (λ l. TakenSoFar c.args.outlines.now all l c.args.fold.now c.loop-feature.fold c.loop-feature.place) c.in-Some.ensures.steps.0 inv.so_far in
    let long = ap length c.in-Some.ensures.steps.0 in
    let is = c.in_ok-has_id.ensures c.if-not-branch.false in
    record {
      goes = search rules;
      ends = search rules;
      long = omega (arith, long, c.in-Some.ensures.steps.1, inv.long);
      so_far = one_more_taken c.args.outlines.now all (into_iter_items c.next.new.self) c.args.fold.now c.loop-feature.fold c.take.new.self c.loop-feature.place
          c.in-Some.feature is.0 so is.1 is.2 (λ q fs held. c.in_ok-take.ensures.ok q fs held);
    }
