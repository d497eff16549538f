use Rattle.std.proofs.Common.{Some, IsSome, string_bytes, option_map, ap, sym, subst, refl, ◌∙◌}
use Rattle.std.specs.FinMap.{get}
use Rattle.streetmap_memory.specs.Slots.{SlotCollection}
use Rattle.streetmap_memory.proofs.Maps.{get_of, reset_some, reset_none}
use Rattle.streetmap_memory.proofs.collection.PlainCollection.replace_slot.Goals as goal
use Rattle.streetmap_memory.proofs.collection.PlainCollection.replace_slot.Goals.{in-Some, in-None}

pub returns-clause-after : goal.returns-clause-after
returns-clause-after c =
    let es = c.self.inside.slots.entries in
    let title = string_bytes c.self.inside.title in
    let time = option_map string_bytes c.self.inside.time in
    elim c.match-get_mut.branch [
      | in-Some w ↦
          let there = w.in-Some.ensures.value in
          let writes = (c.get_mut.follows.holds w.replace.new.dest).3 (subst (λ o. IsSome o) there refl) in
          rw (w.self-inside-is, ← c.self.view_is) (reset_some title time es (c.get_mut.follows.lender w.replace.new.dest).entries c.args.id.now c.args.slot _
          (sym there) writes.3 (writes.1 ∙ ap Some w.replace.ensures.after))
      | in-None w ↦ rw (w.self-inside-is, c.get_mut.follows.holds-at-none, ← c.self.view_is)
          (reset_none title time es c.args.id.now c.args.slot (sym w.in-None.ensures.value))
    ]

pub returns-clause-was : goal.returns-clause-was
returns-clause-was c =
    let has = sym (get_of c.self.inside.slots.entries c.args.id.now) ∙ ap (λ (s : SlotCollection). get s.slots c.args.id.now) c.self.view_is in
    elim c.match-get_mut.branch [
      | in-Some w ↦ rw w.result-is (ap Some w.replace.ensures.value ∙ (w.in-Some.ensures.value ∙ has))
      | in-None w ↦ rw w.result-is (w.in-None.ensures.value ∙ has)
    ]
