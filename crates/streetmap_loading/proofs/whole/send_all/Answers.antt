use Rattle.std.proofs.Common.{◌≡◌, ℕ, string_bytes, Some, refl, sym, subst, ap, arith}
use Rattle.streetmap_loading.specs.Loads.{Loads}
use Rattle.streetmap_loading.specs.Sources.{placed_value}
use Rattle.streetmap_loading.specs.declared.loaded.Loaded.{Loaded}
use Rattle.streetmap_loading.specs.declared.load_fault.LoadFault.TheVariants.{ReadFailed}
use Rattle.streetmap_loading.proofs.Taking.{begins, filled, not_filled, goes_further, stops, ends}
use Rattle.streetmap_loading.proofs.Taking.{not_read, too_many, not_begun}
use Rattle.streetmap_loading.proofs.SkipLemmas.{stays, stays_then, skips_within}
use Rattle.streetmap_loading.proofs.whole.send_all.Goals as goal

pub returns-in-Err-clause-sends : goal.returns-in-Err-clause-sends
returns-in-Err-clause-sends g c = not_begun g.S.Sink.takes c.args.each (string_bytes c.args.key)
    c.args.sink.now
    (g.E.Edits.left c.args.edits.now) c.skipped.result

pub loop-turn-init : goal.loop-turn-init
loop-turn-init g c =
    let begun = c.in-Ok.ensures in
    let is = ap (λ p. p.number) begun.is in
    let batches = begun.batches in
    let taken = begun.taken in
    record {
      number = omega (arith, is);
      batches = omega (arith, batches);
      taken = omega (arith, taken);
      reads = begins g.S.Sink.takes c.args.each (string_bytes c.args.key) c.args.sink.now
          (g.E.Edits.left c.args.edits.now) c.in-Ok.sending c.requires.some begun;
      skips = stays (g.E.Edits.skips c.args.edits.now);
    }

pub returns-in-Err-fill-clause-sends : goal.returns-in-Err-fill-clause-sends
returns-in-Err-fill-clause-sends g c =
    let takes = g.S.Sink.takes in
    let each = c.args.each in
    let key = string_bytes c.args.key in
    let first = c.args.sink.now in
    let old = g.E.Edits.left c.args.edits.now in
    let now = g.E.Edits.left c.loop-turn.edits in
    let it = c.loop-turn.invariant.reads in
    subst (λ (loaded : Loaded). Loads takes each key first c.fill.new.sink old now loaded)
    (sym c.ended.ensures)
    (not_filled takes each key first c.loop-turn.sink old now c.loop-turn.turn c.loop-turn.sending
    it c.fill.new.self c.fill.new.sink c.skipped-in-Err-fill.result c.in-Err-fill.fault
    (c.in-Err-fill.ensures.fills each key first it.read it.sending))

pub returns-in-Err-fill-clause-skips : goal.returns-in-Err-fill-clause-skips
returns-in-Err-fill-clause-skips g c =
    let it = c.loop-turn.invariant.reads in
    let fills = c.in-Err-fill.ensures.fills c.args.each (string_bytes c.args.key) c.args.sink.now
    it.read it.sending in
    skips_within (g.E.Edits.skips c.args.edits.now) (g.E.Edits.skips c.loop-turn.edits)
    c.ended.result _ c.in-Err-fill.fault c.ended.ensures refl fills.1 c.loop-turn.invariant.skips
    c.skipped-in-Err-fill.ensures.within

pub returns-in-Err-put-clause-sends : goal.returns-in-Err-put-clause-sends
returns-in-Err-put-clause-sends g c =
    let takes = g.S.Sink.takes in
    let each = c.args.each in
    let key = string_bytes c.args.key in
    let first = c.args.sink.now in
    let old = g.E.Edits.left c.args.edits.now in
    let now = g.E.Edits.left c.loop-turn.edits in
    let later = g.E.Edits.left c.next_edit.new.self in
    let it = c.loop-turn.invariant.reads in
    let full = filled takes each key first c.loop-turn.sink old now c.loop-turn.turn
    c.loop-turn.sending it c.fill.new.self c.fill.new.sink
    (c.in_default.ensures.fills each key first it.read it.sending) in
    let took = rw c.in-Ok-Some.field-0-is at c.in-Ok-Some.ensures.gives in
    subst (λ (loaded : Loaded). Loads takes each key first c.put.new.sink old later loaded)
    (sym c.ended-in-Err-put.ensures)
    (stops takes each key first c.fill.new.sink old now c.loop-turn.turn c.fill.new.self full
    later
    (placed_value c.in-Ok-Some.placed) c.put.new.self c.put.new.sink
    c.skipped-in-Err-put.result c.in-Err-put.fault took
    (c.in-Err-put.ensures.puts each key first full.read full.sending))

pub returns-in-Err-put-clause-skips : goal.returns-in-Err-put-clause-skips
returns-in-Err-put-clause-skips g c =
    let takes = g.S.Sink.takes in
    let each = c.args.each in
    let key = string_bytes c.args.key in
    let first = c.args.sink.now in
    let old = g.E.Edits.left c.args.edits.now in
    let now = g.E.Edits.left c.loop-turn.edits in
    let it = c.loop-turn.invariant.reads in
    let full = filled takes each key first c.loop-turn.sink old now c.loop-turn.turn
    c.loop-turn.sending it c.fill.new.self c.fill.new.sink
    (c.in_default.ensures.fills each key first it.read it.sending) in
    let puts = c.in-Err-put.ensures.puts each key first full.read full.sending in
    let all = g.E.Edits.skips c.args.edits.now in
    let before = g.E.Edits.skips c.loop-turn.edits in
    let later = g.E.Edits.skips c.next_edit.new.self in
    skips_within all later c.ended-in-Err-put.result _ c.in-Err-put.fault c.ended-in-Err-put.ensures refl puts.1
    (stays_then all before later c.loop-turn.invariant.skips
    (rw c.in-Ok-Some.field-0-is at c.in-Ok-Some.ensures.skips))
    c.skipped-in-Err-put.ensures.within

pub returns-in-Ok-None-clause-sends : goal.returns-in-Ok-None-clause-sends
returns-in-Ok-None-clause-sends g c =
    let takes = g.S.Sink.takes in
    let each = c.args.each in
    let key = string_bytes c.args.key in
    let first = c.args.sink.now in
    let old = g.E.Edits.left c.args.edits.now in
    let now = g.E.Edits.left c.loop-turn.edits in
    let later = g.E.Edits.left c.next_edit.new.self in
    let it = c.loop-turn.invariant.reads in
    let full = filled takes each key first c.loop-turn.sink old now c.loop-turn.turn
    c.loop-turn.sending it c.fill.new.self c.fill.new.sink
    (c.in_default.ensures.fills each key first it.read it.sending) in
    let took = rw c.in-Ok-None.field-0-is at c.in-Ok-None.ensures.gives in
    ends takes each key first c.fill.new.sink old now c.loop-turn.turn c.fill.new.self full later
    c.finish.result c.finish.new.sink took.0 took.1 c.finish.ensures.edits
    (c.finish.ensures.finishes each key first full.read full.sending)

pub returns-in-Err-next_edit-clause-sends : goal.returns-in-Err-next_edit-clause-sends
returns-in-Err-next_edit-clause-sends g c =
    let takes = g.S.Sink.takes in
    let each = c.args.each in
    let key = string_bytes c.args.key in
    let first = c.args.sink.now in
    let old = g.E.Edits.left c.args.edits.now in
    let now = g.E.Edits.left c.loop-turn.edits in
    let later = g.E.Edits.left c.next_edit.new.self in
    let it = c.loop-turn.invariant.reads in
    let filling = c.in_default.ensures.fills each key first it.read it.sending in
    let full = filled takes each key first c.loop-turn.sink old now c.loop-turn.turn
    c.loop-turn.sending it c.fill.new.self c.fill.new.sink filling in
    subst (λ (loaded : Loaded). Loads takes each key first c.fill.new.sink old later loaded)
    (sym c.ended-in-Err-next_edit.ensures)
    (not_read takes each key first c.fill.new.sink old now c.loop-turn.turn c.fill.new.self full
    later c.in-Err-next_edit.fault c.skipped-in-Err-next_edit.result c.in-Err-next_edit.ensures.gives filling.1)

pub loop-turn-preserved : goal.loop-turn-preserved
loop-turn-preserved g c =
    let takes = g.S.Sink.takes in
    let each = c.args.each in
    let key = string_bytes c.args.key in
    let first = c.args.sink.now in
    let old = g.E.Edits.left c.args.edits.now in
    let now = g.E.Edits.left c.loop-turn.edits in
    let later = g.E.Edits.left c.next_edit.new.self in
    let it = c.loop-turn.invariant.reads in
    let fills = c.in_default.ensures in
    let puts = c.in_default-put.ensures in
    let full = filled takes each key first c.loop-turn.sink old now c.loop-turn.turn
    c.loop-turn.sending it c.fill.new.self c.fill.new.sink
    (fills.fills each key first it.read it.sending) in
    let took = rw c.in-Ok-Some.field-0-is at c.in-Ok-Some.ensures.gives in
    let number = c.loop-turn.invariant.number in
    let batches = c.loop-turn.invariant.batches in
    let taken = c.loop-turn.invariant.taken in
    let number_fill = fills.few.number in
    let batches_fill = fills.few.batches in
    let taken_fill = fills.few.taken in
    let number_put = puts.few.number in
    let batches_put = puts.few.batches in
    let taken_put = puts.few.taken in
    record {
      number = omega (arith, number, number_fill, number_put);
      batches = omega (arith, batches, batches_fill, batches_put);
      taken = omega (arith, taken, taken_fill, taken_put);
      reads = goes_further takes each key first c.fill.new.sink old now c.loop-turn.turn
          c.fill.new.self full later (placed_value c.in-Ok-Some.placed) c.put.new.self
          c.put.new.sink took
          (puts.puts each key first full.read full.sending);
      skips = stays_then (g.E.Edits.skips c.args.edits.now) (g.E.Edits.skips c.loop-turn.edits)
          (g.E.Edits.skips c.next_edit.new.self) c.loop-turn.invariant.skips
          (rw c.in-Ok-Some.field-0-is at c.in-Ok-Some.ensures.skips);
    }

pub returns-clause-sends : goal.returns-clause-sends
returns-clause-sends g c =
    let takes = g.S.Sink.takes in
    let each = c.args.each in
    let key = string_bytes c.args.key in
    let first = c.args.sink.now in
    let old = g.E.Edits.left c.args.edits.now in
    let now = g.E.Edits.left c.loop-turn.edits in
    let l = c.loop-turn.sending in
    let last : c.loop-turn.turn ≡ 100000000000000 = omega
    (arith, c.loop-turn-test.false, c.loop-turn.auto.turn-end) in
    subst (λ (loaded : Loaded). Loads takes each key first c.loop-turn.sink old now loaded)
    (sym c.ended-2.ensures)
    (subst (λ (n : ℕ). Loads takes each key first c.loop-turn.sink old now
    (record {
      edits = n;
      batches = l.batches;
      taken = l.taken;
      serial = l.serial;
      skipped = c.skipped-2.result;
      fault = Some ReadFailed;
    })) last
    (too_many takes each key first c.loop-turn.sink old now c.loop-turn.turn l
    c.loop-turn.invariant.reads c.skipped-2.result))
