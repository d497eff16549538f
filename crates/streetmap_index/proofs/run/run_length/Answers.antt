use Rattle.std.proofs.Common.{◌≡◌, All, length, take, subst, arith}
use Rattle.streetmap_query.specs.Views.{query_value}
use Rattle.streetmap_index.specs.OutlinePages.{IsExamined}
use Rattle.streetmap_index.proofs.Runs.{examined_more}
use Rattle.streetmap_index.proofs.run.run_length.Goals as goal

pub loop-place-preserved : goal.loop-place-preserved
loop-place-preserved c =
    examined_more (query_value c.args.query.now) c.args.outlines.now c.loop-place.place
    c.index-outlines-place.result c.loop-place-test.true c.index-outlines-place.is
    c.loop-place.invariant (c.is_due.ensures c.if-not-is_due.false)

pub returns-clause-examined : goal.returns-clause-examined
returns-clause-examined c =
    let os = c.args.outlines.now in
    let end : c.loop-place.place ≡ length os = omega arith in
    subst (λ n. All (IsExamined (query_value c.args.query.now)) (take n os)) end c.loop-place.invariant
