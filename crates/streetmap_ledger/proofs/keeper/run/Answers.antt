use Rattle.std.proofs.Common.{◌≡◌, map, ◌+◌, ◌∷◌, ◌++◌, [], length, take, Some, Err, sym, ap, subst, ◌∙◌, rules, arith}
use Rattle.streetmap_ledger.specs.State.{State}
use Rattle.streetmap_ledger.specs.Batches.{replies_of}
use Rattle.streetmap_ledger.specs.Keep.{RunEnds}
use Rattle.streetmap_batch.specs.BatchView.{batch_value}
use Rattle.streetmap_ledger.proofs.Runs.{replies_last, taken, after_more, ends_at}
use Rattle.streetmap_ledger.proofs.keeper.run.Goals as goal
use Rattle.streetmap_ledger.proofs.keeper.run.Goals.{else-loop-batch-test, then-loop-batch-test+in-Err}

pub loop-batch-preserved : goal.loop-batch-preserved
loop-batch-preserved g c =
    let inv = c.loop-batch.invariant in
    let says = c.in-Ok-apply.ensures in
    let i = c.loop-batch.batch-index in
    let all = map batch_value c.args.batches.now in
    let b = batch_value c.batch-item.result in
    let more : take (i + 1) all ≡ take i all ++ b ∷ [] = taken c.args.batches.now i c.batch-item.result (omega arith) c.batch-item.is in
    let next = λ (s : State). after_more s (take i all) (take (i + 1) all) b more in
    record {
      count = search rules;
      room = search rules;
      running = inv.running;
      preserved = g.K.Keeper.model.preserves_then _ _ _ inv.preserved says.call.preserved;
      clean = λ h. inv.clean (says.call.began_clean h);
      cause = says.call.faults.1 ∙ (sym says.call.faults.0 ∙ inv.cause);
      represents = λ h s e. subst (g.K.Keeper.model.represents c.apply.new.self) (next s) (says.writes h _ (inv.represents (says.call.began_clean h) s e)).1;
      replies = λ h s e. c.push_reserved.ensures.items ∙ (ap (λ rs. rs ++ c.in-Ok-apply.reply ∷ []) (inv.replies (says.call.began_clean h) s e)
          ∙ (ap (λ r. replies_of s (take i all) ++ r ∷ []) (says.writes h _ (inv.represents (says.call.began_clean h) s e)).0
          ∙ (sym (replies_last s (take i all) b) ∙ ap (replies_of s) (sym more))));
    }

pub returns-clause-ends : goal.returns-clause-ends
returns-clause-ends g c h s e =
    let model = g.K.Keeper.model in
    let inv = c.loop-batch.invariant in
    let i = c.loop-batch.batch-index in
    let all = map batch_value c.args.batches.now in
    elim c.loop-batch-test.branch [
      | else-loop-batch-test w ↦
          let clean = rw w.keeper-is at h in
          rw (w.fault-is, inv.running, w.keeper-is, inv.count) (inv.represents clean s e)
      | then-loop-batch-test+in-Err w ↦
          let clean = rw w.keeper-is at h in
          let wrote = w.in-Err.ensures in
          let b = batch_value w.batch-item.result in
          let more : take (i + 1) all ≡ take i all ++ b ∷ [] = taken c.args.batches.now i w.batch-item.result (omega arith) w.batch-item.is in
          let ended = ends_at model _ _ _ s all (length c.loop-batch.replies.items) i b w.in-Err.stopped inv.count more
          (model.fails_later _ _ _ inv.preserved wrote.call.preserved) (wrote.writes clean _ (inv.represents (wrote.call.began_clean clean) s e)) in
          rw w.fault-is (subst (λ k. RunEnds model c.args.keeper.now k s all (length c.loop-batch.replies.items) (Some w.in-Err.stopped)) (sym w.keeper-is)
          ended)
    ]
