use Rattle.std.proofs.Common.{◌≡◌, ◌∙◌, string_bytes, append_assoc, rules}
use Rattle.streetmap_batch.specs.BatchValue.{BatchValue}
use Rattle.streetmap_batch.specs.BatchView.{edit_values}
use Rattle.streetmap_batch.proofs.TextFacts.{batch_parts, batch_text_is}
use Rattle.streetmap_batch.proofs.batch_text.write_batch.Goals as goal

pub returns : goal.returns
returns c =
    let b : BatchValue = record { key = c.args.key.now; edits = edit_values c.args.edits.now } in
    let parts : string_bytes c.push_str-3.new.self ≡ batch_parts b = search (rules, append_assoc) in
    parts ∙ batch_text_is b
