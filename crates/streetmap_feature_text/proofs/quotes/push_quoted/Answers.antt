use Rattle.std.proofs.Common.{◌≡◌, ◌++◌, OnOk, ap, subst, sym, string_bytes, ◌∙◌}
use Rattle.std.specs.List.{list_all}
use Rattle.streetmap_feature_text.specs.Plain.{is_plain}
use Rattle.streetmap_feature_text.proofs.PlainTexts.{plain_text}
use Rattle.streetmap_feature_text.proofs.quotes.push_quoted.Goals as goal

pub returns-then-are_plain-clause-bytes : goal.returns-then-are_plain-clause-bytes
returns-then-are_plain-clause-bytes c =
    let text = c.args.text.now in
    let before = string_bytes c.args.out.now in
    let plain = plain_text text (ap (list_all is_plain) (sym c.as_bytes.ensures.value) ∙ sym c.are_plain.ensures ∙ c.if-are_plain.true) in
    subst (λ quoted. OnOk c.push_in_quotes.result (string_bytes c.push_in_quotes.new.out ≡ before ++ quoted)) (sym plain) c.push_in_quotes.ensures.bytes
