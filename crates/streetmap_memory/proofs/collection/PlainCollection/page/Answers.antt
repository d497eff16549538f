use Rattle.std.proofs.Common.{ap, sym, ◌∙◌}
use Rattle.std.proofs.lemmas.Result.{IfOk-weaker}
use Rattle.std.specs.FinMap.{values}
use Rattle.streetmap_memory.specs.Slots.{SlotCollection, live}
use Rattle.streetmap_ledger.specs.Pages.{page_over}
use Rattle.streetmap_query.specs.Views.{query_value}
use Rattle.streetmap_memory.proofs.Live.{live_in_order}
use Rattle.streetmap_memory.proofs.collection.PlainCollection.page.Goals as goal

pub returns : goal.returns
returns c = IfOk-weaker c.page_over.result _ _ (λ p h. h ∙ ap (page_over (query_value c.args.query.now))
    (sym (live_in_order c.self.inside.slots.entries c.page_over.ensures.ordered) ∙ ap (λ (s : SlotCollection). values (live s.slots)) c.self.view_is))
    c.page_over.ensures.page
