use Rattle.std.proofs.Common.{◌≡◌, ◌++◌, ap, codes, ◌∙◌, string_bytes}
use Rattle.streetmap_grid.specs.Views.{simple_value}
use Rattle.streetmap_feature_text.proofs.WrittenParts.{ended, joined, simple_parts, simple_text_is}
use Rattle.streetmap_feature_text.proofs.feature_json.push_simple.Goals as goal

pub returns : goal.returns
returns c =
    let s = simple_value c.args.geometry.now in
    let before = string_bytes c.push_name.new.out in
    let parts : before ++ codes "\"}" ≡ string_bytes c.args.out.now ++ simple_parts s =
    joined _ _ _ _ _ _ _ _ _ (codes "\"}") c.in_ok-push_str.ensures.bytes c.in_ok-push_coordinates.ensures c.in_ok-push_str-2.ensures.bytes c.in_ok-push_name.ensures in
    ended c.push_str-3.result _ before (codes "\"}") _ c.push_str-3.ensures.bytes (parts ∙ ap (λ t. string_bytes c.args.out.now ++ t) (simple_text_is s))
