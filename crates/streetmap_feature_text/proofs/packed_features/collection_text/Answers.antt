use Rattle.std.proofs.Common.{◌≡◌, ◌∙◌, string_bytes, append_assoc, rules}
use Rattle.streetmap_feature_text.proofs.WrittenParts.{collection_parts, collection_text_is}
use Rattle.streetmap_feature_text.proofs.packed_features.collection_text.Goals as goal

pub returns : goal.returns
returns c =
    let parts : string_bytes c.push_str-2.new.self ≡ collection_parts c.args.features.now = search (rules, append_assoc) in
    parts ∙ collection_text_is c.args.features.now
