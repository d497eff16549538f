use Rattle.std.proofs.Common.{◌≡◌, ◌++◌, ap, codes, ◌∙◌, string_bytes, append_assoc, rules}
use Rattle.streetmap_feature_text.proofs.WrittenParts.{ended, position_parts, position_text_is}
use Rattle.streetmap_feature_text.proofs.feature_json.push_position.Goals as goal

pub returns : goal.returns
returns c =
    let p = c.args.position.now in
    let before = string_bytes c.push_height.new.out in
    let parts : before ++ codes "]" ≡ string_bytes c.args.out.now ++ position_parts p.x p.y p.z = search (rules, append_assoc) in
    ended c.push_str-3.result _ before (codes "]") _ c.push_str-3.ensures.bytes (parts ∙ ap (λ t. string_bytes c.args.out.now ++ t) (position_text_is p.x p.y p.z))
