use Rattle.std.proofs.Common.{string_bytes, option_map, ap}
use Rattle.streetmap_memory.proofs.Maps.{map_cut}
use Rattle.streetmap_memory.proofs.collection.PlainCollection.remove_slot.Goals as goal

pub returns : goal.returns
returns c =
    let says = c.remove.ensures in
    rw (← c.self.view_is) (ap (λ m. record { title = string_bytes c.self.inside.title; time = option_map string_bytes c.self.inside.time; slots = m })
    (map_cut c.self.inside.slots.entries c.remove.new.self.entries c.args.id.now says.updates.3 says.updates.1))
