use Rattle.std.proofs.Common.{Some, ap, sym, ◌∙◌}
use Rattle.std.specs.Option.{option_map}
use Rattle.streetmap_memory.specs.Slots.{map_of, collected}
use Rattle.streetmap_ledger.specs.Summaries.{summary_of}
use Rattle.streetmap_memory.proofs.Maps.{get_of}
use Rattle.streetmap_memory.proofs.SlotLemmas.{get_collection}
use Rattle.streetmap_memory.proofs.plain.PlainKeeper.summary_of.Goals as goal

pub returns-in_ok-summary-in-Some : goal.returns-in_ok-summary-in-Some
returns-in_ok-summary-in-Some c =
    let es = c.args.self.now.collections.entries in
    ap Some c.in_ok-summary-in-Some.ensures ∙ ap (option_map (summary_of c.args.id.now))
    (ap (option_map collected) (c.in-Some.ensures.value ∙ sym (get_of es c.args.id.now)) ∙ sym (get_collection (map_of es) c.args.id.now))

pub returns-in-None : goal.returns-in-None
returns-in-None c =
    let es = c.args.self.now.collections.entries in
    ap (option_map (summary_of c.args.id.now))
    (ap (option_map collected) (c.in-None.ensures.value ∙ sym (get_of es c.args.id.now)) ∙ sym (get_collection (map_of es) c.args.id.now))
