use Rattle.std.proofs.Common.{length, sym, ap, ◌∙◌}
use Rattle.std.proofs.lemmas.List.{length-map}
use Rattle.streetmap_batch.specs.BatchView.{edit_value}
use Rattle.streetmap_loading.proofs.SendLemmas.{finish_none, finish_ok, finish_stop, ends_memory}
use Rattle.streetmap_loading.proofs.progress.Sending.finish.Goals as goal

pub returns-in-Ok-None-clause-finishes : goal.returns-in-Ok-None-clause-finishes
returns-in-Ok-None-clause-finishes g c = λ each key first read it. (
  finish_none g.S.Sink.takes each key first read c.args.self c.args.sink.now it
      (rw c.in-Ok-None.field-0-is at c.in-Ok-None.ensures),
  tt,
)

pub returns-in-Ok-clause-finishes : goal.returns-in-Ok-clause-finishes
returns-in-Ok-clause-finishes g c = λ each key first read it.
    let same = sym (length-map c.edits.result.now edit_value) ∙ ap length c.edits.ensures.value in (
      finish_ok g.S.Sink.takes each key first read c.args.self c.args.sink.now it
          c.in-Ok-Some.batch
          c.in-Ok.last c.take.new.self (length c.edits.result.now)
          (rw c.in-Ok-Some.field-0-is at c.in-Ok-Some.ensures) c.in-Ok.ensures.takes same,
      tt,
    )

pub returns-in-Ok-Some-clause-finishes : goal.returns-in-Ok-Some-clause-finishes
returns-in-Ok-Some-clause-finishes g c = λ each key first read it.
    finish_stop g.S.Sink.takes each key first read c.args.self c.args.sink.now it
    c.in-Ok-Some.batch
    c.in-Err-take.fault c.take.new.self c.deref.result.now c.placed.result
    (rw c.in-Ok-Some.field-0-is at c.in-Ok-Some.ensures) c.deref.ensures.value
    c.in-Err-take.ensures.takes c.in-Err-take.ensures.of_batch
    c.placed.ensures

pub returns-clause-finishes : goal.returns-clause-finishes
returns-clause-finishes g c = λ each key first read it.
    (ends_memory g.S.Sink.takes each key first read c.args.self c.args.sink.now it, tt)
