use Rattle.std.proofs.Common.{◌≡◌, ◌++◌, ap, codes, ◌∙◌, string_bytes, append_assoc, rules}
use Rattle.streetmap_feature_text.proofs.WrittenParts.{ended}
use Rattle.streetmap_batch.proofs.TextFacts.{feature_edit_parts, feature_edit_text_is}
use Rattle.streetmap_batch.proofs.batch_text.push_feature_edit.Goals as goal

pub returns : goal.returns
returns c =
    let op = c.args.op.now in
    let collection = c.args.collection.now in
    let f = c.args.feature.now in
    let before = string_bytes c.push_quoted-2.new.out in
    let parts : before ++ codes "}" ≡ string_bytes c.args.out.now ++ feature_edit_parts op collection f = search (rules, append_assoc) in
    ended c.push_str-5.result _ before (codes "}") _ c.push_str-5.ensures.bytes (parts ∙ ap (λ t. string_bytes c.args.out.now ++ t) (feature_edit_text_is op collection f))
