use Rattle.std.proofs.Common.{◌<◌, length, string_bytes, ap, ◌∙◌, arith}
use Rattle.std.proofs.lemmas.List.{length-map}
use Rattle.streetmap_batch.specs.BatchView.{edit_values, edit_value}
use Rattle.streetmap_packing.specs.PackingState.{comma_after}
use Rattle.streetmap_packing.proofs.PackLemmas.{takes_if}
use Rattle.streetmap_packing.proofs.packer.Packer.takes.Goals as goal

pub returns-then-len-self : goal.returns-then-len-self
returns-then-len-self c = λ e sized.
    let p = c.args.self.now in
    let es = edit_values p.edits.items in
    let long = length-map p.edits.items edit_value in
    let few : length es < p.each = omega (arith, long, c.if-len-self.true, c.len.ensures) in
    c.has_room.ensures ∙ takes_if p.each (string_bytes p.key) p.number es e p.bytes
    c.comma_len-comma.result c.args.size few p.measured
    (c.comma_len-comma.ensures.value ∙ ap (λ xs. length (comma_after (edit_values xs)))
    c.deref.ensures.value) sized
