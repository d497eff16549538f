use Rattle.std.proofs.Common.{option_copied, sym, refl, ◌∙◌}
use Rattle.std.specs.FinMap.{insert, empty}
use Rattle.streetmap_batch.specs.BatchValue as edit
use Rattle.streetmap_memory.specs.Slots.{map_of}
use Rattle.streetmap_memory.proofs.Maps.{get_of}
use Rattle.streetmap_memory.proofs.Finite.{remove_inserted}
use Rattle.streetmap_memory.proofs.Steps.{open_step, open_refused, does}
use Rattle.streetmap_memory.specs.declared.undo.Undo.TheVariants.{Open}
use Rattle.streetmap_memory.proofs.edits.act_open.Goals as goal

pub open-requires : goal.open-requires
open-requires c = get_of c.args.collections.now.entries c.args.name.now ∙ sym c.in-None.ensures.value

pub returns-in-Some-clause-done : goal.returns-in-Some-clause-done
returns-in-Some-clause-done c =
    let t = map_of c.args.collections.now.entries in (
      λ keys. open_refused t keys c.args.name.now c.args.title.now _ _ (get_of c.args.collections.now.entries c.args.name.now ∙ sym c.in-Some.ensures.value),
      refl,
    )

pub returns-in_ok-open-in-None-clause-done : goal.returns-in_ok-open-in-None-clause-done
returns-in_ok-open-in-None-clause-done c =
    let t = map_of c.args.collections.now.entries in
    let name = c.args.name.now in
    let title = c.args.title.now in
    let time = option_copied c.args.time in
    let none = get_of c.args.collections.now.entries name ∙ sym c.in-None.ensures.value in
    does t (map_of c.open.new.collections.entries) (insert t name (record { title = title; time = time; slots = empty })) (edit.«open» name title time)
    (Open c.args.name)
    (λ keys. open_step t keys name title time none)
    c.in_ok-open-in-None.ensures.ok
    (remove_inserted t name (record { title = title; time = time; slots = empty }) none)
