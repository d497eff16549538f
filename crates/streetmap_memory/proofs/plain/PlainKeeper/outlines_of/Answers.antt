use Rattle.std.proofs.Common.{Some, ap, sym, ◌∙◌}
use Rattle.std.specs.Option.{option_map}
use Rattle.streetmap_memory.specs.Slots.{map_of, collected}
use Rattle.streetmap_ledger.specs.Outlines.{feature_outlines_of}
use Rattle.streetmap_memory.proofs.Maps.{get_of}
use Rattle.streetmap_memory.proofs.SlotLemmas.{get_collection}
use Rattle.streetmap_memory.proofs.plain.PlainKeeper.outlines_of.Goals as goal

pub returns-in_ok-outlines-in-Some : goal.returns-in_ok-outlines-in-Some
returns-in_ok-outlines-in-Some c =
    let es = c.args.self.now.collections.entries in
    ap Some c.in_ok-outlines-in-Some.ensures ∙ ap (option_map feature_outlines_of)
    (ap (option_map collected) (c.in-Some.ensures.value ∙ sym (get_of es c.args.collection.now)) ∙ sym (get_collection (map_of es) c.args.collection.now))

pub returns-in-None : goal.returns-in-None
returns-in-None c =
    let es = c.args.self.now.collections.entries in
    ap (option_map feature_outlines_of)
    (ap (option_map collected) (c.in-None.ensures.value ∙ sym (get_of es c.args.collection.now)) ∙ sym (get_collection (map_of es) c.args.collection.now))
