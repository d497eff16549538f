use Rattle.std.proofs.Common.{◌≡◌, ◌+◌, ◌-◌, length, Some, None, sym, ap, subst, ◌∙◌, arith}
use Rattle.std.specs.Prelude.{slice_get}
use Rattle.std.specs.Option.{option_copied}
use Rattle.streetmap_ledger.specs.KeptView.{keyed_batches}
use Rattle.streetmap_ledger.specs.State.{opening_state}
use Rattle.streetmap_replay.specs.Calls.{AreReads}
use Rattle.streetmap_replay.proofs.CallsInTurn.{no_calls, no_reads, read_of, failed_read, calls_then, reads_then}
use Rattle.streetmap_replay.proofs.ReplayEnds.{part_fault}
use Rattle.streetmap_replay.proofs.BatchesGivenAgain.{begins, ends, part_are, none_last, last_serial, at_count}
use Rattle.streetmap_replay.proofs.batches.replay.Goals as goal

pub loop-turn-init : goal.loop-turn-init
loop-turn-init g c = record {
  reads = no_reads c.args.keeper.now;
  calls = no_calls c.args.fresh.now;
  given = λ h j s e o. (opening_state, begins s (g.K.Keeper.model.well_formed c.args.keeper.now s e), o);
}

pub returns-in-Err-clause-kept : goal.returns-in-Err-clause-kept
returns-in-Err-clause-kept g c = reads_then c.loop-turn.invariant.reads (failed_read c.in-Err.ensures)

pub returns-in_default-clause-kept : goal.returns-in_default-clause-kept
returns-in_default-clause-kept g c = reads_then c.loop-turn.invariant.reads (read_of c.in-Ok.ensures)

pub returns-in_default-clause-gives : goal.returns-in_default-clause-gives
returns-in_default-clause-gives g c = λ h j s e o.
    let inv = c.loop-turn.invariant in
    let says = c.in-Ok.ensures in
    let began = says.call.began_clean h in
    let found = says.reads h s (inv.reads.stays began s e) in
    let sound = g.K.Keeper.model.well_formed c.args.keeper.now s e in
    let it = inv.given began j s e o in
    let items = c.in-Ok.part.items in
    let last : slice_get items (length items - 1) ≡ None =
    sym (ap (λ l. slice_get l (length l - 1)) c.deref.ensures.value)
    ∙ (sym c.last.ensures.value ∙ ap option_copied c.in_default.is) in
    let none = ap keyed_batches (none_last items last) in
    let after = g.L.Keeper.model.well_formed c.loop-turn.fresh it.0 it.2 in
    (it.0, ends s sound c.loop-turn.last it.0 after it.1 (found.0.some none), it.2)

pub returns-in-Err-give_each-clause-kept : goal.returns-in-Err-give_each-clause-kept
returns-in-Err-give_each-clause-kept g c =
    subst (AreReads g.K.Keeper.model c.args.keeper.now c.batches.new.self) (sym c.in-Err-give_each.ensures.stop)
    (reads_then c.loop-turn.invariant.reads (read_of c.in-Ok.ensures))

pub returns-in-Err-give_each-clause-fresh : goal.returns-in-Err-give_each-clause-fresh
returns-in-Err-give_each-clause-fresh g c = calls_then c.loop-turn.invariant.calls c.in-Err-give_each.ensures.calls

pub returns-in-Err-give_each-clause-gives : goal.returns-in-Err-give_each-clause-gives
returns-in-Err-give_each-clause-gives g c = λ h j s e o.
    let inv = c.loop-turn.invariant in
    let says = c.in-Ok.ensures in
    let began = says.call.began_clean h in
    let found = says.reads h s (inv.reads.stays began s e) in
    let sound = g.K.Keeper.model.well_formed c.args.keeper.now s e in
    let each = c.in-Err-give_each.ensures in
    let it = inv.given began (each.calls.began_clean j) s e o in
    let are = part_are s c.loop-turn.last c.in-Ok.part.items found.0.are in
    part_fault s (c.loop-turn.last + length c.as_slice.result.now) c.in-Err-give_each.fault
    (g.L.Keeper.model.represents c.give_each.new.fresh) sound
    (each.gives j s c.loop-turn.last it.0 sound it.1 it.2 (rw c.as_slice.ensures.value are))

pub loop-turn-preserved : goal.loop-turn-preserved
loop-turn-preserved g c =
    let inv = c.loop-turn.invariant in
    let says = c.in-Ok.ensures in
    let each = c.in-Ok-give_each.ensures in
    let items = c.in-Ok.part.items in
    let latest = c.in-Some.latest.now in
    let last : slice_get items (length items - 1) ≡ Some latest =
    sym (ap (λ l. slice_get l (length l - 1)) c.deref.ensures.value)
    ∙ (sym c.last.ensures.value ∙ ap option_copied c.in-Some.is) in
    record {
      reads = reads_then inv.reads (read_of says);
      calls = calls_then inv.calls each.calls;
      given = λ h j s e o.
          let began = says.call.began_clean h in
          let found = says.reads h s (inv.reads.stays began s e) in
          let sound = g.K.Keeper.model.well_formed c.args.keeper.now s e in
          let it = inv.given began (each.calls.began_clean j) s e o in
          let are = part_are s c.loop-turn.last items found.0.are in
          let later = each.gives j s c.loop-turn.last it.0 sound it.1 it.2
          (rw c.as_slice.ensures.value are) in
          let size = ap length c.as_slice.ensures.value in
          let serial = last_serial s c.loop-turn.last items latest are last in
          (later.0, at_count s later.0 _ _ (omega (arith, size, serial)) later.1, later.2);
    }
