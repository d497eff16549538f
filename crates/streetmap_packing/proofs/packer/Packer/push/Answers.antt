use Rattle.std.proofs.Common.{◌≡◌, ◌≤◌, ◌∷◌, [], ◌++◌, length, string_bytes, ap, sym, ◌∙◌, arith}
use Rattle.std.proofs.Common.{length-append}
use Rattle.std.proofs.lemmas.List.{length-map, map-append}
use Rattle.streetmap_batch.specs.BatchText.{batch_text}
use Rattle.streetmap_batch.specs.BatchView.{edit_values, edit_value}
use Rattle.streetmap_packing.specs.PackingState.{comma_after}
use Rattle.streetmap_packing.specs.Packs.{numbered}
use Rattle.streetmap_packing.proofs.PackLemmas.{takes_bytes}
use Rattle.streetmap_packing.proofs.packer.Packer.push.Goals as goal

pub overflow_add-self : goal.overflow_add-self
overflow_add-self c =
    let p = c.args.self.now in
    let room = takes_bytes p.each (string_bytes p.key) p.number (edit_values p.edits.items)
    (edit_value c.args.edit) p.bytes c.comma_len-comma.result c.args.size c.requires.passes
    p.measured
    (c.comma_len-comma.ensures.value ∙ ap (λ xs. length (comma_after (edit_values xs)))
    c.deref.ensures.value) c.requires.sized in
    let short = room.1 in
    omega (arith, short)

pub overflow_add-self-2 : goal.overflow_add-self-2
overflow_add-self-2 c =
    let p = c.args.self.now in
    let room = takes_bytes p.each (string_bytes p.key) p.number (edit_values p.edits.items)
    (edit_value c.args.edit) p.bytes c.comma_len-comma.result c.args.size c.requires.passes
    p.measured
    (c.comma_len-comma.ensures.value ∙ ap (λ xs. length (comma_after (edit_values xs)))
    c.deref.ensures.value) c.requires.sized in
    let short = room.1 in
    omega (arith, short)

pub invariant_of-self-2 : goal.invariant_of-self-2
invariant_of-self-2 c =
    let p = c.args.self.now in
    let room = takes_bytes p.each (string_bytes p.key) p.number (edit_values p.edits.items)
    (edit_value c.args.edit) p.bytes c.comma_len-comma.result c.args.size c.requires.passes
    p.measured
    (c.comma_len-comma.ensures.value ∙ ap (λ xs. length (comma_after (edit_values xs)))
    c.deref.ensures.value) c.requires.sized in
    let few = room.2 in
    let long = length-map p.edits.items edit_value in
    let items : c.push.new.self.items ≡ p.edits.items ++ c.args.edit ∷ [] =
    c.in_ok-push.ensures.items in
    let same : edit_values c.push.new.self.items ≡ edit_values p.edits.items ++ edit_value
    c.args.edit ∷ [] = ap edit_values items ∙ map-append edit_value p.edits.items
    (c.args.edit ∷ []) in
    let count = ap length items ∙ length-append p.edits.items (c.args.edit ∷ []) in
    let fits : length c.push.new.self.items ≤ p.each = omega (arith, few, long, count) in
    record {
      named = p.named;
      short = p.short;
      some = p.some;
      most = p.most;
      few = fits;
      measured = room.0 ∙ ap (λ es. length (batch_text (numbered (string_bytes p.key) p.number es)))
          (sym same);
    }
