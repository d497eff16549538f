use Rattle.std.proofs.Common.{None, ap, sym, refl, ◌∙◌}
use Rattle.streetmap_batch.specs.BatchValue as edit
use Rattle.streetmap_memory.specs.Slots.{map_of, put_in}
use Rattle.streetmap_memory.proofs.Steps.{delete_step, delete_gives, reset_is_put, does}
use Rattle.streetmap_memory.proofs.edits.act_delete.Goals as goal

pub returns-in-NoCollection : goal.returns-in-NoCollection
returns-in-NoCollection c =
    let t = map_of c.args.collections.now.entries in
    (λ keys. delete_step t keys c.args.name.now c.args.id.now ∙ ap (delete_gives t keys c.args.name.now c.args.id.now) (sym c.in-NoCollection.ensures), refl)

pub returns-in-NoFeature : goal.returns-in-NoFeature
returns-in-NoFeature c =
    let t = map_of c.args.collections.now.entries in
    (λ keys. delete_step t keys c.args.name.now c.args.id.now ∙ ap (delete_gives t keys c.args.name.now c.args.id.now) (sym c.in-NoFeature.ensures), refl)

pub returns-in-There : goal.returns-in-There
returns-in-There c =
    let t = map_of c.args.collections.now.entries in
    let name = c.args.name.now in
    let id = c.args.id.now in
    does t (map_of c.replace_slot-was.new.collections.entries) (put_in t name id None) (edit.delete name id) c.undo_of.result
    (λ keys. delete_step t keys name id ∙ ap (delete_gives t keys name id) (sym c.in-There.ensures))
    (c.replace_slot-was.ensures.after ∙ reset_is_put t name id None (sym c.in-There.ensures))
    (c.undo_of.ensures t None (sym c.replace_slot-was.ensures.was))
