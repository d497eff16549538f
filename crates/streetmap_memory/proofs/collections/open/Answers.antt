use Rattle.std.proofs.Common.{string_bytes, option_map, ap, ◌∙◌}
use Rattle.std.specs.FinMap.{insert, empty}
use Rattle.streetmap_memory.specs.Slots.{map_of}
use Rattle.streetmap_memory.proofs.Maps.{map_put}
use Rattle.streetmap_memory.proofs.collections.open.Goals as goal

pub returns-clause-ok : goal.returns-clause-ok
returns-clause-ok c =
    let says = c.in_ok-insert.ensures in
    let m = map_of c.args.collections.now.entries in
    map_put c.args.collections.now.entries c.insert.new.self.entries (string_bytes c.in_ok-key.key) c.new-collection.result says.updates.3 says.updates.1
    ∙ (ap (λ k. insert m k c.new-collection.result) c.in_ok-key.ensures.ok ∙ ap (insert m c.args.name.now) (c.new-collection.ensures
    ∙ (ap (λ t. record { title = t; time = option_map string_bytes c.in_ok-owned.field-0; slots = empty }) c.in_ok-from_str.ensures.ok
    ∙ ap (λ t. record { title = c.args.title.now; time = t; slots = empty }) c.in_ok-owned.ensures)))
