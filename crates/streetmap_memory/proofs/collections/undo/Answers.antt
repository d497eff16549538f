use Rattle.streetmap_memory.proofs.Maps.{map_cut}
use Rattle.streetmap_memory.proofs.collections.undo.Goals as goal

pub returns-in-Open : goal.returns-in-Open
returns-in-Open c = rw c.in-Open.is (map_cut c.args.collections.now.entries c.remove.new.self.entries c.in-Open.name.now c.remove.ensures.updates.3
    c.remove.ensures.updates.1)
