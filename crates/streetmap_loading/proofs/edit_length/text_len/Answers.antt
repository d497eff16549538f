use Rattle.std.proofs.Common.{◌∙◌, ◌+◌, ap, sym, arith, length}
use Rattle.serde_json.specs.Written.{compact_text}
use Rattle.streetmap_batch.specs.BatchText.{edit_data}
use Rattle.streetmap_batch.specs.BatchView.{edit_value}
use Rattle.streetmap_loading.proofs.MeasureLemmas.{insertion_length, replacement_length}
use Rattle.streetmap_loading.proofs.edit_length.text_len.Goals as goal

pub overflow_add-result : goal.overflow_add-result
overflow_add-result c = omega (arith, c.parts_len.ensures.room)

pub overflow_add-result-in-Replace : goal.overflow_add-result-in-Replace
overflow_add-result-in-Replace c = omega (arith, c.parts_len-in-Replace.ensures.room)

pub returns-in-Insert : goal.returns-in-Insert
returns-in-Insert c =
    ap (λ n. 42 + n) c.parts_len.ensures.sum
    ∙ sym (insertion_length _ c.in-Insert.feature c.parts_len.ensures.named)
    ∙ ap (λ e. length (compact_text (edit_data (edit_value e)))) (sym c.in-Insert.is)

pub returns-in-Replace : goal.returns-in-Replace
returns-in-Replace c =
    ap (λ n. 43 + n) c.parts_len-in-Replace.ensures.sum
    ∙ sym (replacement_length _ c.in-Replace.feature c.parts_len-in-Replace.ensures.named)
    ∙ ap (λ e. length (compact_text (edit_data (edit_value e)))) (sym c.in-Replace.is)
