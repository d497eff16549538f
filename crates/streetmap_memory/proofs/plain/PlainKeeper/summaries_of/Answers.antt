use Rattle.std.proofs.Common.{sym, ◌∙◌}
use Rattle.std.proofs.lemmas.Result.{IfOk-weaker}
use Rattle.streetmap_memory.proofs.CollectionsInOrder.{reported_in_order}
use Rattle.streetmap_memory.proofs.plain.PlainKeeper.summaries_of.Goals as goal

pub returns : goal.returns
returns c = IfOk-weaker c.summaries.result _ _ (λ reported h. h ∙ sym (reported_in_order c.args.self.now.collections.entries c.summaries.ensures.ordered))
    c.summaries.ensures.reported
