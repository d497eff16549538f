use Rattle.std.proofs.Common.{◌<◌, length, All, ap, sym, subst, ◌∙◌, ◌++◌}
use Rattle.std.specs.Prelude.{Vec}
use Rattle.std.specs.Vec.Iter.{into_iter_items}
use Rattle.std.specs.declared.alloc.Global.{Global}
use Rattle.std.proofs.lemmas.List.Elements.{All-head, All-tail, All-push, All-same}
use Rattle.streetmap_ledger.specs.declared.outline.FeatureOutline.{FeatureOutline}
use Rattle.streetmap_outlines.specs.Outlines.{joined, joined_runs, IsBounded}
use Rattle.streetmap_outlines.proofs.InChunks.{HasSome}
use Rattle.streetmap_outlines.proofs.CutUp.{HasOutlines, run_taken}
use Rattle.streetmap_outlines.proofs.chunks.chunks_of.Goals as goal

pub loop-run-preserved : goal.loop-run-preserved
loop-run-preserved c =
    let inv = c.loop-run.invariant in
    let chunks = c.loop-run.chunks.items in
    let rest = into_iter_items c.next.new.self in
    let run : Vec FeatureOutline Global = c.in-Some.run' in
    let next = c.in-Some.ensures.steps.0 in
    let made = c.new.result in
    let pushes = c.in_ok-push.ensures.items in
    record {
      goes = tt;
      ends = tt;
      same = run_taken chunks c.push.new.self.items made rest run _ pushes c.new.ensures.same
          (ap (λ rs. joined chunks ++ joined_runs rs) (sym next) ∙ inv.same);
      filled = λ all.
          let so_far = inv.filled all in
          let left = subst (All HasOutlines) next so_far.1 in
          let some = subst (λ os. 0 < length os) (sym c.new.ensures.same) (All-head HasOutlines run rest left) in
          (All-same HasSome _ _ pushes (All-push HasSome chunks made so_far.0 some), All-tail HasOutlines run rest left);
      bounded = All-same IsBounded _ _ pushes (All-push IsBounded chunks made inv.bounded c.new.ensures.bounded);
    }
