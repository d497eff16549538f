use Rattle.std.proofs.Common.{◌≡◌, ◌++◌, ap, ◌∙◌, string_bytes, decimal, length, append_assoc, rules}
use Rattle.serde_json.specs.Written.{compact_text}
use Rattle.streetmap_feature_text.specs.Written.{array_of, feature_data}
use Rattle.streetmap_ledger.specs.PageView.{page_value}
use Rattle.streetmap_bodies.proofs.LineParts.{line_parts, line_page_is}
use Rattle.streetmap_bodies.proofs.line_body.line_page_text.Goals as goal

pub returns : goal.returns
returns c =
    let page = page_value c.args.page.now in
    let features : string_bytes c.push_features.new.out ≡ string_bytes c.push_str.new.self ++ compact_text (array_of feature_data page.features) =
    c.in_ok-push_features.ensures ∙ ap (λ fs. string_bytes c.push_str.new.self ++ compact_text (array_of feature_data fs)) c.as_slice-features.ensures.value in
    let count : string_bytes c.add_number-2.new.out ≡ string_bytes c.push_str-3.new.self ++ decimal (length page.features) =
    c.in_ok-add_number-2.ensures ∙ ap (λ fs. string_bytes c.push_str-3.new.self ++ decimal (length fs)) c.as_slice-features.ensures.value in
    let parts : string_bytes c.push_str-4.new.self ≡ line_parts page.features page.matched page.next = search (rules, append_assoc, features, count) in
    parts ∙ line_page_is page.features page.matched page.examined page.next
