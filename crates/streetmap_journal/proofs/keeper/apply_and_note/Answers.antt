use Rattle.std.proofs.Common.{◌≡◌, true, sym, ◌∙◌, ap, subst}
use Rattle.streetmap_batch.specs.BatchView.{batch_value}
use Rattle.streetmap_ledger.specs.Laws.{is_accepted}
use Rattle.streetmap_ledger.specs.Batches.{act}
use Rattle.streetmap_ledger.specs.State.{State}
use Rattle.streetmap_replay.proofs.CallsInTurn.{call_from}
use Rattle.streetmap_journal.specs.Reports.{IsFor}
use Rattle.streetmap_journal.proofs.LineAfterBatch.{accepted_holds, repeated_stays, refused_stays}
use Rattle.streetmap_journal.proofs.Over.{not_requested}
use Rattle.streetmap_journal.proofs.keeper.apply_and_note.Goals as goal

pub returns-in-Ok-Accepted-clause-applied : goal.returns-in-Ok-Accepted-clause-applied
returns-in-Ok-Accepted-clause-applied g c = let it = rw c.in-Ok-Accepted.field-0-is at c.in-Ok-Accepted.ensures in it.applied

pub returns-in-Ok-Accepted-clause-call : goal.returns-in-Ok-Accepted-clause-call
returns-in-Ok-Accepted-clause-call g c = let it = rw c.in-Ok-Accepted.field-0-is at c.in-Ok-Accepted.ensures in it.call

pub returns-in-Ok-Accepted-clause-writes : goal.returns-in-Ok-Accepted-clause-writes
returns-in-Ok-Accepted-clause-writes g c = let it = rw c.in-Ok-Accepted.field-0-is at c.in-Ok-Accepted.ensures in it.writes

pub returns-in-Ok-Accepted-clause-noted : goal.returns-in-Ok-Accepted-clause-noted
returns-in-Ok-Accepted-clause-noted g c = λ h s e before.
    let says = c.in-Ok-Accepted.ensures.writes h s e in
    let b = batch_value c.args.batch.now in
    let well = g.K.Keeper.model.well_formed in
    let accepted : is_accepted (act s b).reply ≡ true = ap is_accepted (sym says.0 ∙ c.in-Ok-Accepted.field-0-is) in (
      c.note.ensures.reported before.0,
      λ reports. accepted_holds s b (well c.args.keeper.now s e)
          (well c.apply.new.self (act s b).state says.1) accepted _ _ _ _ _
          (c.as_slice.ensures.value ∙ c.in-Ok.ensures) c.note.ensures.line (before.1 reports),
    )

pub returns-in-Ok-Repeated-clause-applied : goal.returns-in-Ok-Repeated-clause-applied
returns-in-Ok-Repeated-clause-applied g c = let it = rw c.in-Ok-Repeated.field-0-is at c.in-Ok-Repeated.ensures in it.applied

pub returns-in-Ok-Repeated-clause-call : goal.returns-in-Ok-Repeated-clause-call
returns-in-Ok-Repeated-clause-call g c = let it = rw c.in-Ok-Repeated.field-0-is at c.in-Ok-Repeated.ensures in it.call

pub returns-in-Ok-Repeated-clause-writes : goal.returns-in-Ok-Repeated-clause-writes
returns-in-Ok-Repeated-clause-writes g c = let it = rw c.in-Ok-Repeated.field-0-is at c.in-Ok-Repeated.ensures in it.writes

pub returns-in-Ok-Repeated-clause-noted : goal.returns-in-Ok-Repeated-clause-noted
returns-in-Ok-Repeated-clause-noted g c = λ h s e before.
    let W = g.W.JournalWriter in
    let says = c.in-Ok-Repeated.ensures.writes h s e in
    let b = batch_value c.args.batch.now in
    let same = repeated_stays s b c.in-Ok-Repeated.counts c.in-Ok-Repeated.serial (sym says.0 ∙ c.in-Ok-Repeated.field-0-is) in
    subst (λ (t : State). IsFor W.contents W.reported W.is_kept c.args.journal.now t) (sym same) before

pub returns-in-Ok-Refused-clause-applied : goal.returns-in-Ok-Refused-clause-applied
returns-in-Ok-Refused-clause-applied g c = let it = rw c.in-Ok-Refused.field-0-is at c.in-Ok-Refused.ensures in it.applied

pub returns-in-Ok-Refused-clause-call : goal.returns-in-Ok-Refused-clause-call
returns-in-Ok-Refused-clause-call g c = let it = rw c.in-Ok-Refused.field-0-is at c.in-Ok-Refused.ensures in it.call

pub returns-in-Ok-Refused-clause-writes : goal.returns-in-Ok-Refused-clause-writes
returns-in-Ok-Refused-clause-writes g c = let it = rw c.in-Ok-Refused.field-0-is at c.in-Ok-Refused.ensures in it.writes

pub returns-in-Ok-Refused-clause-noted : goal.returns-in-Ok-Refused-clause-noted
returns-in-Ok-Refused-clause-noted g c = λ h s e before.
    let W = g.W.JournalWriter in
    let says = c.in-Ok-Refused.ensures.writes h s e in
    let b = batch_value c.args.batch.now in
    let same = refused_stays s b c.in-Ok-Refused.why c.in-Ok-Refused.place (sym says.0 ∙ c.in-Ok-Refused.field-0-is) in
    subst (λ (t : State). IsFor W.contents W.reported W.is_kept c.args.journal.now t) (sym same) before

pub returns-in_default-clause-call : goal.returns-in_default-clause-call
returns-in_default-clause-call g c = call_from c.refuse.ensures.calls

pub returns-in_default-clause-writes : goal.returns-in_default-clause-writes
returns-in_default-clause-writes g c = λ h s e. not_requested g.K.Keeper.model c.args.keeper.now c.refuse.new.keeper s (batch_value c.args.batch.now)
    c.refuse.result (c.refuse.ensures.stays h s e)
