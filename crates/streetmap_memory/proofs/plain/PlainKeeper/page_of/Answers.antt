use Rattle.std.proofs.Common.{Some, ap, sym, ◌∙◌}
use Rattle.std.specs.Option.{option_map}
use Rattle.std.specs.FinMap.{values}
use Rattle.streetmap_ledger.specs.State.{Collection}
use Rattle.streetmap_memory.specs.Slots.{map_of, collected}
use Rattle.streetmap_ledger.specs.Pages.{page_over}
use Rattle.streetmap_query.specs.Views.{query_value}
use Rattle.streetmap_memory.proofs.Maps.{get_of}
use Rattle.streetmap_memory.proofs.SlotLemmas.{get_collection}
use Rattle.streetmap_memory.proofs.plain.PlainKeeper.page_of.Goals as goal

pub returns-in_ok-page-in-Some : goal.returns-in_ok-page-in-Some
returns-in_ok-page-in-Some c =
    let es = c.args.self.now.collections.entries in
    ap Some c.in_ok-page-in-Some.ensures ∙ ap (option_map (λ (d : Collection). page_over (query_value c.args.query.now) (values d.features)))
    (ap (option_map collected) (c.in-Some.ensures.value ∙ sym (get_of es c.args.collection.now)) ∙ sym (get_collection (map_of es) c.args.collection.now))

pub returns-in-None : goal.returns-in-None
returns-in-None c =
    let es = c.args.self.now.collections.entries in
    ap (option_map (λ (d : Collection). page_over (query_value c.args.query.now) (values d.features)))
    (ap (option_map collected) (c.in-None.ensures.value ∙ sym (get_of es c.args.collection.now)) ∙ sym (get_collection (map_of es) c.args.collection.now))
