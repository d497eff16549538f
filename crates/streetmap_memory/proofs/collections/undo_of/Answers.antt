use Rattle.std.proofs.Common.{◌∙◌}
use Rattle.streetmap_memory.proofs.SlotLemmas.{cut_put, reset_put}
use Rattle.streetmap_memory.proofs.collections.undo_of.Goals as goal

pub returns-in-Some : goal.returns-in-Some
returns-in-Some c t slot was = reset_put t c.args.name.now c.args.id.now slot c.in-Some.slot (was ∙ c.in-Some.is)

pub returns-in-None : goal.returns-in-None
returns-in-None c t slot was = cut_put t c.args.name.now c.args.id.now slot (was ∙ c.in-None.is)
