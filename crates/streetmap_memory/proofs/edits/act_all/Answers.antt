use Rattle.std.proofs.Common.{◌≡◌, ◌+◌, [], ◌∷◌, Ok, map, drop, ap, sym, subst, ◌∙◌, rules, arith}
use Rattle.std.proofs.lemmas.List.{drop_more, drop_all}
use Rattle.streetmap_memory.specs.Slots.{map_of, collections_of}
use Rattle.streetmap_memory.specs.Undo.{rewound}
use Rattle.streetmap_batch.specs.BatchView.{edit_value}
use Rattle.streetmap_ledger.specs.Batches.{edited}
use Rattle.streetmap_memory.specs.Does.{DoesOne, state_of}
use Rattle.streetmap_memory.proofs.SlotLemmas.{rewound_last}
use Rattle.streetmap_memory.proofs.Steps.{edited_more}
use Rattle.streetmap_memory.proofs.Sweeping.{all_swept_same}
use Rattle.streetmap_memory.proofs.edits.act_all.Goals as goal

pub loop-edit-preserved : goal.loop-edit-preserved
loop-edit-preserved c =
    let inv = c.loop-edit.invariant in
    let old = map_of c.loop-edit.collections.entries in
    let new = map_of c.act.new.collections.entries in
    let edit = c.edit-item.result in
    let i = c.loop-edit.edit-index in
    let does = subst (λ a. DoesOne old (edit_value edit) a new) c.in-Ok-Done.field-0-is c.in-Ok-Done.ensures.done in
    record {
      count = search rules;
      place = omega arith;
      room = search rules;
      back = ap (λ us. rewound us new) c.push_reserved.ensures.items ∙ (rewound_last c.loop-edit.log.items c.in-Ok-Done.undo new
          ∙ (ap (rewound c.loop-edit.log.items) does.1 ∙ inv.back));
      rest = λ keys. inv.rest keys ∙ (ap (λ es. edited c.loop-edit.place (state_of old keys) (map edit_value es))
          (drop_more c.args.edits.now i edit (omega arith) ∙ ap (λ x. x ∷ drop (i + 1) c.args.edits.now) (sym c.edit-item.is))
          ∙ edited_more (state_of old keys) (state_of new keys) c.loop-edit.place (edit_value edit) (map edit_value (drop (i + 1) c.args.edits.now))
          (does.0 keys));
    }

pub returns-clause-done : goal.returns-clause-done
returns-clause-done c keys =
    let inv = c.loop-edit.invariant in
    let mid = map_of c.loop-edit.collections.entries in
    let none : drop c.loop-edit.edit-index c.args.edits.now ≡ [] = drop_all c.loop-edit.edit-index c.args.edits.now (omega arith) in
    inv.rest keys ∙ (ap (λ es. edited c.loop-edit.place (state_of mid keys) (map edit_value es)) none
    ∙ ap (λ m. Ok (record { collections = m; keys = keys })) (sym (all_swept_same c.loop-edit.log.items mid) ∙ ap collections_of (sym c.sweep.ensures)))
