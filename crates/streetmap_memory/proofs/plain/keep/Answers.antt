use Rattle.std.proofs.Common.{string_bytes, ap, ◌∙◌}
use Rattle.std.specs.FinMap.{insert}
use Rattle.streetmap_memory.specs.Slots.{map_of}
use Rattle.streetmap_memory.proofs.Maps.{map_put}
use Rattle.streetmap_memory.proofs.plain.keep.Goals as goal

pub returns-clause-ok : goal.returns-clause-ok
returns-clause-ok c =
    let says = c.in_ok-insert.ensures in
    let m = map_of c.args.keys.now.entries in
    map_put c.args.keys.now.entries c.insert.new.self.entries (string_bytes c.in_ok-own_key.own_key) c.new-kept.result says.updates.3 says.updates.1
    ∙ (ap (λ k. insert m k c.new-kept.result) c.in_ok-own_key.ensures.ok ∙ ap (insert m c.args.key.now)
    (c.new-kept.ensures ∙ ap (λ t. record { text = t; counts = c.args.counts; serial = c.args.serial }) c.in_ok-own_text.ensures.cases))
