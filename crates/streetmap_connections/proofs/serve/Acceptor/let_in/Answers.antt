use Rattle.std.proofs.Common.{refl, ◌∙◌, arith}
use Rattle.streetmap_connections.proofs.Timelines.{timeline_stays, timeline_then}
use Rattle.streetmap_connections.proofs.serve.Acceptor.let_in.Goals as goal

pub loop-attempt-preserved : goal.loop-attempt-preserved
loop-attempt-preserved c = record {
  comes = timeline_then c.loop-attempt.invariant.comes c.let_next_in.ensures.comes;
  kept = c.let_next_in.ensures.kept ∙ c.loop-attempt.invariant.kept;
  unrefused = c.let_next_in.ensures.unrefused ∙ c.loop-attempt.invariant.unrefused;
  few = λ _. omega (arith, c.let_next_in.ensures.one, c.begun.ensures, c.if-begun-count);
}

pub loop-attempt-init : goal.loop-attempt-init
loop-attempt-init c = record {
  comes = timeline_stays _ _ refl;
  kept = refl;
  unrefused = refl;
  few = λ before. before;
}

pub returns-in_err-let_next_in-clause-comes : goal.returns-in_err-let_next_in-clause-comes
returns-in_err-let_next_in-clause-comes c =
    timeline_then c.loop-attempt.invariant.comes c.let_next_in.ensures.comes

pub returns-then-not-branch-clause-comes : goal.returns-then-not-branch-clause-comes
returns-then-not-branch-clause-comes c =
    timeline_then c.loop-attempt.invariant.comes c.let_next_in.ensures.comes
