use Rattle.std.proofs.Common.{◌≡◌, ℕ, ◌+◌, ◌<◌, length, ap, arith}
use Rattle.streetmap_ledger.specs.KeptView.{keyed_batch}
use Rattle.streetmap_ledger.proofs.Serials.{found_under}
use Rattle.streetmap_replay.proofs.CallsInTurn.{no_calls, calls_then}
use Rattle.streetmap_replay.proofs.ReplayEnds.{row_true, row_false, row_stop}
use Rattle.streetmap_replay.specs.Given.{state_by, read_of}
use Rattle.streetmap_replay.proofs.BatchesGivenAgain.{at_count, in_part, goes_further, stops}
use Rattle.streetmap_replay.proofs.batches.give_each.Goals as goal

pub loop-batch-init : goal.loop-batch-init
loop-batch-init g c = record {
  calls = no_calls c.args.fresh.now;
  given = λ h s n t sound first there are. (t, at_count s t n (n + 0) (omega arith) first, there);
}

pub returns-in-Ok-false-clause-calls : goal.returns-in-Ok-false-clause-calls
returns-in-Ok-false-clause-calls g c = calls_then c.loop-batch.invariant.calls c.in-Ok-false.ensures.calls

pub returns-in-Ok-false-clause-gives : goal.returns-in-Ok-false-clause-gives
returns-in-Ok-false-clause-gives g c = λ h s n t sound first there are.
    let says = c.in-Ok-false.ensures in
    let it = c.loop-batch.invariant.given (says.calls.began_clean h) s n t sound first there are in
    let i = c.loop-batch.batch-index in
    let batch = c.batch-item.result in
    let kept = in_part s n i c.args.part.now batch are (omega arith) c.batch-item.is in
    let serial = (found_under s (n + i + 1) (keyed_batch batch) kept).1 in
    stops s sound (n + i) it.0 it.1 (keyed_batch batch) kept batch.serial serial
    (row_false it.0 (keyed_batch batch) _ _ c.in-Ok-false.field-0-test
    (says.gives h it.0 it.2))

pub returns-in-Err-clause-calls : goal.returns-in-Err-clause-calls
returns-in-Err-clause-calls g c = calls_then c.loop-batch.invariant.calls c.in-Err.ensures.calls

pub returns-in-Err-clause-gives : goal.returns-in-Err-clause-gives
returns-in-Err-clause-gives g c = λ h s n t sound first there are.
    let says = c.in-Err.ensures in
    let it = c.loop-batch.invariant.given (says.calls.began_clean h) s n t sound first there are in
    row_stop s it.0 (n + length c.args.part.now) (keyed_batch c.batch-item.result) c.in-Err.fault
    (g.L.Keeper.model.represents c.give_again.new.fresh) (says.gives h it.0 it.2)

pub loop-batch-preserved : goal.loop-batch-preserved
loop-batch-preserved g c =
    let inv = c.loop-batch.invariant in
    let says = c.in-Ok-true.ensures in
    let batch = c.batch-item.result in
    let i = c.loop-batch.batch-index in
    let low : i < length c.args.part.now = omega arith in
    record {
      calls = calls_then inv.calls says.calls;
      given = λ h s n t sound first there are.
          let it = inv.given (says.calls.began_clean h) s n t sound first there are in
          let kept = in_part s n i c.args.part.now batch are low c.batch-item.is in
          let row = row_true it.0 (keyed_batch batch) _ _ c.in-Ok-true.field-0-test
          (says.gives h it.0 it.2) in (
            state_by it.0 (read_of (keyed_batch batch).1.text),
            at_count s _ (n + i + 1) (n + (i + 1)) (omega arith)
                (goes_further s sound (n + i) it.0 it.1 (keyed_batch batch) kept row.0),
            row.1,
          );
    }

pub returns-clause-gives : goal.returns-clause-gives
returns-clause-gives g c = λ h s n t sound first there are.
    let it = c.loop-batch.invariant.given h s n t sound first there are in
    let all : c.loop-batch.batch-index ≡ length c.args.part.now = omega arith in
    (it.0, at_count s it.0 _ _ (ap (λ (k : ℕ). n + k) all) it.1, it.2)
