use Rattle.std.proofs.Common.{ap, sym, ◌∙◌}
use Rattle.std.specs.Option.{option_and_then}
use Rattle.std.specs.Result.{result_ok}
use Rattle.streetmap_ledger.specs.State.{timed}
use Rattle.streetmap_memory.specs.Slots.{SlotCollection}
use Rattle.streetmap_memory.proofs.Maps.{get_of}
use Rattle.streetmap_memory.proofs.collections.packed.Goals as goal

pub returns-in_ok-packed-in-Some : goal.returns-in_ok-packed-in-Some
returns-in_ok-packed-in-Some c = c.in_ok-packed-in-Some.ensures ∙ ap (option_and_then (λ (s : SlotCollection). result_ok (timed s.time c.args.feature.now)))
    (c.in-Some.ensures.value ∙ sym (get_of c.args.collections.now.entries c.args.name.now))

pub returns-in-None : goal.returns-in-None
returns-in-None c = ap (option_and_then (λ (s : SlotCollection). result_ok (timed s.time c.args.feature.now)))
    (c.in-None.ensures.value ∙ sym (get_of c.args.collections.now.entries c.args.name.now))
