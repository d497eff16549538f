use Rattle.std.proofs.Common.{Some, ap, sym, ◌∙◌}
use Rattle.streetmap_memory.specs.Slots.{map_of}
use Rattle.streetmap_memory.proofs.Maps.{get_of}
use Rattle.streetmap_memory.proofs.PlainLemmas.{feature_on}
use Rattle.streetmap_memory.proofs.plain.PlainKeeper.feature_of.Goals as goal

pub returns-in_ok-copy-in-Some-get : goal.returns-in_ok-copy-in-Some-get
returns-in_ok-copy-in-Some-get c =
    let k = c.args.self.now in
    let there = get_of k.collections.entries c.args.collection.now ∙ sym c.in-Some.ensures.value in
    ap Some c.in_ok-copy-in-Some-get.ensures ∙ (c.in-Some-get.ensures ∙ sym (feature_on (map_of k.collections.entries) (map_of k.keys.entries)
    c.args.collection.now c.args.id.now _ there))

pub returns-in-None-get : goal.returns-in-None-get
returns-in-None-get c =
    let k = c.args.self.now in
    let there = get_of k.collections.entries c.args.collection.now ∙ sym c.in-Some.ensures.value in
    c.in-None-get.ensures ∙ sym (feature_on (map_of k.collections.entries) (map_of k.keys.entries) c.args.collection.now c.args.id.now _ there)

pub returns-in-None : goal.returns-in-None
returns-in-None c =
    let k = c.args.self.now in
    let there = get_of k.collections.entries c.args.collection.now ∙ sym c.in-None.ensures.value in
    sym (feature_on (map_of k.collections.entries) (map_of k.keys.entries) c.args.collection.now c.args.id.now _ there)
