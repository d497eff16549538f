use Rattle.std.proofs.Common.{◌≡◌, Some, ap, sym, subst, refl, ◌∙◌}
use Rattle.streetmap_batch.specs.BatchValue as edit
use Rattle.streetmap_memory.specs.Slots.{map_of, put_in}
use Rattle.streetmap_memory.specs.Undo.{undone, found_in, timed_in}
use Rattle.streetmap_memory.specs.declared.edits.Found.TheVariants as found
use Rattle.streetmap_memory.proofs.Steps.{replace_step, replace_gives, does, same_id}
use Rattle.streetmap_memory.proofs.edits.act_replace.Goals as goal

pub returns-in-NoCollection-clause-done : goal.returns-in-NoCollection-clause-done
returns-in-NoCollection-clause-done c =
    let t = map_of c.args.collections.now.entries in
    let f = c.args.feature.now in (
      λ keys. replace_step t keys c.args.name.now f ∙ ap (λ w. replace_gives t keys c.args.name.now w (timed_in t c.args.name.now f))
          (ap (found_in t c.args.name.now) (sym c.id-id.ensures) ∙ sym c.in-NoCollection.ensures),
      refl,
    )

pub returns-in-NoFeature-clause-done : goal.returns-in-NoFeature-clause-done
returns-in-NoFeature-clause-done c =
    let t = map_of c.args.collections.now.entries in
    let f = c.args.feature.now in (
      λ keys. replace_step t keys c.args.name.now f ∙ ap (λ w. replace_gives t keys c.args.name.now w (timed_in t c.args.name.now f))
          (ap (found_in t c.args.name.now) (sym c.id-id.ensures) ∙ sym c.in-NoFeature.ensures),
      refl,
    )

pub returns-in-None-clause-done : goal.returns-in-None-clause-done
returns-in-None-clause-done c =
    let t = map_of c.args.collections.now.entries in
    let f = c.args.feature.now in (
      λ keys. replace_step t keys c.args.name.now f
          ∙ (ap (λ w. replace_gives t keys c.args.name.now w (timed_in t c.args.name.now f))
          (ap (found_in t c.args.name.now) (sym c.id-id.ensures) ∙ sym c.in-There.ensures)
          ∙ ap (replace_gives t keys c.args.name.now found.There) (sym c.in_ok-packed-in-There.ensures ∙ c.in-None.is)),
      refl,
    )

pub returns-in_ok-was-in-Some-clause-done : goal.returns-in_ok-was-in-Some-clause-done
returns-in_ok-was-in-Some-clause-done c =
    let t = map_of c.args.collections.now.entries in
    let name = c.args.name.now in
    let f = c.args.feature.now in
    let g = c.in-Some.packed in
    let says = c.in_ok-was-in-Some.ensures in
    let is : timed_in t name f ≡ Some g = sym c.in_ok-packed-in-There.ensures ∙ c.in-Some.is in
    let id : c.id-id.result.now ≡ g.id = c.id-id.ensures ∙ sym (same_id t name f g is) in
    does t (map_of c.put.new.collections.entries) (put_in t name g.id (Some g)) (edit.replace name f) c.undo_of.result
    (λ keys. replace_step t keys name f
    ∙ (ap (λ w. replace_gives t keys name w (timed_in t name f)) (ap (found_in t name) (sym c.id-id.ensures) ∙ sym c.in-There.ensures)
    ∙ ap (replace_gives t keys name found.There) is))
    (says.ok ∙ ap (λ i. put_in t name i (Some g)) id)
    (subst (λ i. undone c.undo_of.result (put_in t name i (Some g)) ≡ t) id (c.undo_of.ensures t (Some g) (sym says.was)))
