use Rattle.std.proofs.Common.{◌≡◌, map, length, take, vec_capacity, None}
use Rattle.streetmap_ledger.specs.State.{State}
use Rattle.streetmap_ledger.specs.Batches.{after_all, replies_of}
use Rattle.streetmap_batch.specs.BatchView.{batch_value}
use Rattle.streetmap_ledger.proofs.keeper.run.Given as goal

-- what holds as long as no batch ended the run
abbrev pub invariant-loop-batch : goal.invariant-loop-batch
invariant-loop-batch g l =
    let k = g.K.Keeper.model in
    record {
      count : length l.replies.items ≡ l.batch-index;
      room : vec_capacity l.replies ≡ length l.batches;
      running : l.fault ≡ None;
      preserved : k.preserves l.fn.keeper l.keeper;
      clean : k.is_clean l.keeper → k.is_clean l.fn.keeper;
      cause : k.cause l.keeper ≡ k.cause l.fn.keeper;
      represents : k.is_clean l.keeper → (s : State) → k.represents l.fn.keeper s → k.represents l.keeper
          (after_all s (take l.batch-index (map batch_value l.batches)));
      replies : k.is_clean l.keeper → (s : State) → k.represents l.fn.keeper s → l.replies.items
          ≡ replies_of s (take l.batch-index (map batch_value l.batches));
    }
