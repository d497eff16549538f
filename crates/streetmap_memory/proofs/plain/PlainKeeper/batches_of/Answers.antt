use Rattle.std.proofs.Common.{Vec, Global, sym, ap, subst, ◌∙◌}
use Rattle.std.specs.Option.{option_map}
use Rattle.streetmap_ledger.specs.Kept.{AreNext}
use Rattle.streetmap_ledger.specs.KeptView.{keyed_batch}
use Rattle.streetmap_ledger.specs.declared.kept_batch.KeptBatch.{KeptBatch}
use Rattle.streetmap_ledger.proofs.Nexts.{next_found, one_pushed, none_pushed}
use Rattle.streetmap_memory.specs.Plain.{plain_state}
use Rattle.streetmap_memory.proofs.plain.PlainKeeper.batches_of.Goals.{in-Some+in_ok-push, in_default}
use Rattle.streetmap_memory.proofs.plain.PlainKeeper.batches_of.Goals as goal

pub returns : goal.returns
returns c sound = λ room.
    let s = plain_state c.args.self.now in
    let o = c.in_ok-batch.field-0 in
    let items = c.match-branch-2.found.items in
    let next = next_found s sound c.args.after c.saturating_add.result room
    c.saturating_add.ensures (option_map keyed_batch o) (sym c.in_ok-batch.ensures) in
    let empty = c.new-found.ensures.items in
    subst (AreNext s c.args.after room) (elim c.match-branch-2.branch [
      | in-Some+in_ok-push w ↦ one_pushed _ items o w.in-Some.batch w.in-Some.is empty
          (ap (λ (v : Vec KeptBatch Global). v.items) w.found-is ∙ w.in_ok-push.ensures.items)
      | in_default w ↦ none_pushed items o w.in_default.is
          (ap (λ (v : Vec KeptBatch Global). v.items) w.found-is ∙ empty)
    ]) next
