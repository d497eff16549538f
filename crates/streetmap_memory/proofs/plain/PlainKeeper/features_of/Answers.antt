use Rattle.std.proofs.Common.{◌≡◌, Some, ap, sym, ◌∙◌}
use Rattle.std.specs.Option.{option_map}
use Rattle.std.specs.FinMap.{get}
use Rattle.streetmap_ledger.specs.Pages.{run_of}
use Rattle.streetmap_memory.specs.Slots.{map_of, collected, collections_of}
use Rattle.streetmap_memory.proofs.Maps.{get_of}
use Rattle.streetmap_memory.proofs.SlotLemmas.{get_collection}
use Rattle.streetmap_memory.proofs.Under.{run_of_named}
use Rattle.streetmap_memory.proofs.plain.PlainKeeper.features_of.Goals as goal

pub returns-in_ok-features-in-Some : goal.returns-in_ok-features-in-Some
returns-in_ok-features-in-Some c sound =
    let es = c.args.self.now.collections.entries in
    let name = c.args.collection.now in
    let first = c.args.first.now in
    let last = c.args.last.now in
    let known = collected c.in-Some.collection.now in
    let there : get (collections_of (map_of es)) name ≡ Some known = get_collection (map_of es) name
    ∙ ap (option_map collected) (get_of es name ∙ sym c.in-Some.ensures.value) in
    ap Some (c.in_ok-features-in-Some.ensures ∙ run_of_named first last known (sound.made name known there).holds)
    ∙ ap (option_map (run_of first last)) (sym there)

pub returns-in-None : goal.returns-in-None
returns-in-None c sound =
    let es = c.args.self.now.collections.entries in
    let name = c.args.collection.now in
    ap (option_map (run_of c.args.first.now c.args.last.now))
    (ap (option_map collected) (c.in-None.ensures.value ∙ sym (get_of es name)) ∙ sym (get_collection (map_of es) name))
