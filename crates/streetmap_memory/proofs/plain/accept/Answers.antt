use Rattle.std.proofs.Common.{map, ap, sym, subst, ◌∙◌, string_bytes}
use Rattle.streetmap_ledger.specs.Batches.{edited, fresh}
use Rattle.streetmap_memory.specs.Slots.{map_of}
use Rattle.streetmap_batch.specs.BatchView.{edit_value, batch_value}
use Rattle.streetmap_memory.specs.Does.{DoesAll, state_of}
use Rattle.streetmap_memory.proofs.SlotLemmas.{cut_kept}
use Rattle.streetmap_memory.proofs.plain.accept.Goals as goal

pub returns-in-Ok-Some-clause-ok : goal.returns-in-Ok-Some-clause-ok
returns-in-Ok-Some-clause-ok c =
    let t = map_of c.args.collections.now.entries in
    let keys = map_of c.args.keys.now.entries in
    let b = batch_value c.args.batch.now in
    let s = state_of t keys in
    let does = subst (λ r. DoesAll t (map edit_value c.edits-2.result.now) r (map_of c.act_all.new.collections.entries)) c.in-Ok-Some.field-0-is
    c.in-Ok-Some.ensures.done in
    let stops = ap (edited 1 s) (sym c.edits-2.ensures.value) ∙ does.0 keys in
    let back = cut_kept c.args.keys.now.entries c.keep.new.keys.entries c.remove.new.self.entries c.key.result.now c.key-in-Ok-Some.result.now
    (string_bytes c.args.batch.now.key) _ c.key.ensures.value c.key-in-Ok-Some.ensures.value c.in_ok-keep.ensures.ok c.requires.new
    c.remove.ensures.updates.3 c.remove.ensures.updates.1 in (
      sym (ap (λ r. (fresh s b c.args.serial r).reply) stops),
      ap (λ m. state_of (map_of c.act_all.new.collections.entries) m) back
          ∙ (ap (λ m. state_of m keys) does.1 ∙ sym (ap (λ r. (fresh s b c.args.serial r).state) stops)),
    )

pub returns-in-Err-clause-err_keys : goal.returns-in-Err-clause-err_keys
returns-in-Err-clause-err_keys c =
    cut_kept c.args.keys.now.entries c.keep.new.keys.entries c.remove-in-Err.new.self.entries c.key.result.now c.key-in-Err.result.now
    (string_bytes c.args.batch.now.key) _ c.key.ensures.value c.key-in-Err.ensures.value c.in_ok-keep.ensures.ok c.requires.new
    c.remove-in-Err.ensures.updates.3 c.remove-in-Err.ensures.updates.1
