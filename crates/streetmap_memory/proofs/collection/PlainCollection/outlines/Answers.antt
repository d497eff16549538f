use Rattle.std.proofs.Common.{ap, sym, map, ◌∙◌}
use Rattle.std.proofs.lemmas.Result.{IfOk-weaker}
use Rattle.std.specs.FinMap.{entries}
use Rattle.streetmap_memory.specs.Slots.{SlotCollection, live, outline_at}
use Rattle.streetmap_memory.proofs.Live.{live_entries_in_order}
use Rattle.streetmap_memory.proofs.collection.PlainCollection.outlines.Goals as goal

pub returns : goal.returns
returns c = IfOk-weaker c.outlines_of.result _ _ (λ p h. h ∙ ap (map outline_at) (sym (live_entries_in_order c.self.inside.slots.entries
    c.outlines_of.ensures.ordered) ∙ ap (λ (s : SlotCollection). entries (live s.slots)) c.self.view_is)) c.outlines_of.ensures.outlines
