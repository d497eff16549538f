use Rattle.std.proofs.Common.{◌≡◌, ◌++◌, ap, codes, ◌∙◌, string_bytes, append_assoc, rules}
use Rattle.streetmap_geojson.specs.FeatureView.{feature_value}
use Rattle.streetmap_feature_text.proofs.WrittenParts.{ended, feature_parts, feature_text_is}
use Rattle.streetmap_feature_text.proofs.feature_json.push_feature.Goals as goal

pub returns : goal.returns
returns c =
    let f = feature_value c.args.feature.now in
    let before = string_bytes c.push_properties.new.out in
    let last = codes ",\"type\":\"Feature\"}" in
    let parts : before ++ last ≡ string_bytes c.args.out.now ++ feature_parts f = search (rules, append_assoc) in
    ended c.push_str-4.result _ before last _ c.push_str-4.ensures.bytes (parts ∙ ap (λ t. string_bytes c.args.out.now ++ t) (feature_text_is f))
