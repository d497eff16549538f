use Rattle.std.proofs.Common.{◌≡◌, ◌++◌, ap, codes, ◌∙◌, string_bytes, append_assoc, rules}
use Rattle.streetmap_grid.specs.Views.{simples_value}
use Rattle.streetmap_feature_text.proofs.WrittenParts.{ended, collected_parts, collected_text_is}
use Rattle.streetmap_feature_text.proofs.feature_json.push_collection.Goals as goal

pub returns : goal.returns
returns c =
    let ss = simples_value c.args.members.now in
    let before = string_bytes c.push_simples.new.out in
    let last = codes ",\"type\":\"GeometryCollection\"}" in
    let parts : before ++ last ≡ string_bytes c.args.out.now ++ collected_parts ss = search (rules, append_assoc) in
    ended c.push_str-2.result _ before last _ c.push_str-2.ensures.bytes (parts ∙ ap (λ t. string_bytes c.args.out.now ++ t) (collected_text_is ss))
