use Rattle.std.proofs.Common.{◌≡◌, ◌<◌, ◌∷◌, length, Some, ap, ◌∙◌, arith}
use Rattle.json.specs.Reads.{token_of}
use Rattle.json.specs.Token.{Token}
use Rattle.serde_json.specs.Data.{string}
use Rattle.streetmap_json.specs.Values.{value_at}
use Rattle.streetmap_feature_reader.proofs.Fronts.{string_front, where_some}
use Rattle.streetmap_feature_reader.proofs.usual_geometry.read_kind.Goals as goal

pub returns-in-Some-String : goal.returns-in-Some-String
returns-in-Some-String c =
    let text = c.in-Some-String.name.now in
    let rest = c.next.new.self in
    let before : c.args.reader.now ≡ Token.string text ∷ rest = c.in-Some-String.ensures.value ∙ ap (λ k. token_of k ∷ rest) c.in-Some-String.field-0-is in
    let shorter : length rest < length c.args.reader.now = rw before (omega arith) in
    where_some c.of.result (λ kind named. (ap (value_at 125) before ∙ string_front 125 text rest ∙ ap (λ s. Some (string s, rest)) named, shorter)) c.of.ensures.found
