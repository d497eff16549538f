use Rattle.std.proofs.Common.{ap, sym, ◌∙◌}
use Rattle.std.proofs.lemmas.Result.{IfOk-weaker}
use Rattle.std.specs.FinMap.{entries}
use Rattle.streetmap_memory.specs.Slots.{SlotCollection, live}
use Rattle.streetmap_memory.proofs.Live.{live_entries_in_order}
use Rattle.streetmap_memory.proofs.Under.{same_run, none_backwards}
use Rattle.streetmap_memory.proofs.collection.PlainCollection.features.Goals as goal

pub returns-then-gt : goal.returns-then-gt
returns-then-gt c =
    let far = sym c.gt.ensures ∙ c.if-gt.true in
    c.new.ensures.items ∙ sym (none_backwards c.args.first.now c.args.last.now far (entries (live c.args.self.now.slots)))

pub returns : goal.returns
returns c =
    let all = sym (live_entries_in_order c.self.inside.slots.entries c.run_of.ensures.ordered)
    ∙ ap (λ (s : SlotCollection). entries (live s.slots)) c.self.view_is in
    IfOk-weaker c.run_of.result _ _ (λ run is. is ∙ same_run _ _ c.args.first.now c.args.last.now _ _ c.in_ok-first.ensures.ok c.in_ok-last.ensures.ok all)
    c.run_of.ensures.run
