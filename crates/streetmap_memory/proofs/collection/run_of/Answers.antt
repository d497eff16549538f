use Rattle.std.proofs.Common.{◌≡◌, [], ◌++◌, ap, sym, ◌∙◌, append-nil, rules}
use Rattle.std.specs.Map.{values_of}
use Rattle.std.specs.String.{string_cmp}
use Rattle.std.specs.BTreeMap.Range.{entries_between}
use Rattle.std.specs.declared.ops.Bound.TheVariants.{Included}
use Rattle.streetmap_memory.specs.Slots.{live_values}
use Rattle.streetmap_memory.proofs.Under.{run_in_range}
use Rattle.streetmap_memory.proofs.collection.run_of.Goals as goal

pub returns-clause-run : goal.returns-clause-run
returns-clause-run c =
    let es = c.args.slots.now.entries in
    let run = c.loop-slot.run.items in
    let none : c.loop-slot.slot-iterator ≡ [] = search rules in
    let all : c.into_iter-slot-iterator.result
    ≡ entries_between string_cmp (Included c.args.first) (Included c.args.last) es
    = search rules in
    sym (append-nil run)
    ∙ (ap (λ left. run ++ live_values (values_of left)) (sym none)
    ∙ (c.loop-slot.invariant
    ∙ (ap (λ met. live_values (values_of met)) all
    ∙ run_in_range c.args.first c.args.last es)))
