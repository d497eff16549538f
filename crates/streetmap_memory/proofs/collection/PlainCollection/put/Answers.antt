use Rattle.std.proofs.Common.{Some, string_bytes, option_map, ap, sym, ◌∙◌}
use Rattle.std.specs.FinMap.{get}
use Rattle.streetmap_memory.specs.Slots.{SlotCollection}
use Rattle.streetmap_memory.proofs.Maps.{map_put, get_of}
use Rattle.streetmap_memory.proofs.collection.PlainCollection.put.Goals as goal

pub returns-clause-ok : goal.returns-clause-ok
returns-clause-ok c =
    let says = c.in_ok-insert.ensures in
    rw (← c.self.view_is) (ap (λ m. record { title = string_bytes c.self.inside.title; time = option_map string_bytes c.self.inside.time; slots = m })
    (map_put c.self.inside.slots.entries c.insert.new.self.entries (string_bytes c.args.id) (Some c.args.feature) says.updates.3 says.updates.1))

pub returns-clause-was : goal.returns-clause-was
returns-clause-was c = c.in_ok-insert.ensures.old ∙ (sym (get_of c.self.inside.slots.entries (string_bytes c.args.id))
    ∙ ap (λ (s : SlotCollection). get s.slots (string_bytes c.args.id)) c.self.view_is)
