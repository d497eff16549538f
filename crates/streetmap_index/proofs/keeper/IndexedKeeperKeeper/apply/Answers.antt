use Rattle.std.proofs.Common.{◌≡◌, List, Ok, refl, sym, subst, ◌∙◌, rules}
use Rattle.streetmap_batch.specs.BatchValue.{EditValue}
use Rattle.streetmap_batch.specs.BatchView.{batch_value}
use Rattle.streetmap_ledger.specs.State.{State}
use Rattle.streetmap_ledger.specs.Batches.{act, edited}
use Rattle.streetmap_ledger.specs.Keep.{IsWrite}
use Rattle.streetmap_ledger.specs.declared.reply.Reply.{Reply}
use Rattle.streetmap_index.specs.Index.{IsIndexOf}
use Rattle.streetmap_index.proofs.Replies.{act_reports, followed_batch, noted_writes}
use Rattle.streetmap_index.proofs.Over.{write_over}
use Rattle.streetmap_index.proofs.keeper.IndexedKeeperKeeper.apply.Goals as goal

pub returns-in-Ok-Accepted : goal.returns-in-Ok-Accepted
returns-in-Ok-Accepted g c =
    let model = g.K.Keeper.model in
    let b = batch_value c.args.batch.now in
    let act = subst (λ (r : Reply). IsWrite model c.args.self.now.keeper c.apply.new.self b (Ok r)) c.in-Ok-Accepted.field-0-is c.in-Ok-Accepted.ensures in
    write_over act refl (λ s e known says.
    let followed = λ (t : State) (done : edited 1 s b.edits ≡ Ok t). c.follow.ensures s t 1
    (subst (λ (es : List EditValue). edited 1 s es ≡ Ok t) (sym c.edits.ensures.value) done) known in
    (says.0, (says.1, followed_batch s b c.in-Ok-Accepted.counts c.in-Ok-Accepted.serial c.follow.new.self (sym says.0) followed)))

pub returns-in-Ok : goal.returns-in-Ok
returns-in-Ok g c = write_over c.in-Ok.ensures refl (λ s e known says.
    let b = batch_value c.args.batch.now in
    let reported = act_reports s b in
    let same : (act s b).state ≡ s = search rules in
    (says.0, (says.1, subst (λ (t : State). IsIndexOf c.args.self.now.index t) (sym same) known)))

pub returns-in-Err : goal.returns-in-Err
returns-in-Err g c = write_over c.in-Err.ensures c.note_fault.ensures.keeper (λ s e known says.
    noted_writes g.K.Keeper.model _ _ s (batch_value c.args.batch.now) c.in-Err.fault c.note_fault.ensures.noted known says)
