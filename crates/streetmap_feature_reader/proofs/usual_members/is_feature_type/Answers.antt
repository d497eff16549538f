use Rattle.std.proofs.Common.{◌≡◌, ◌<◌, ◌∷◌, length, codes, Some, ap, sym, ◌∙◌, arith}
use Rattle.std.proofs.lemmas.Slice.Eq.{bytes_eq-Decides}
use Rattle.json.specs.Reads.{token_of}
use Rattle.json.specs.Token.{Token}
use Rattle.serde_json.specs.Data.{string}
use Rattle.streetmap_json.specs.Values.{value_at}
use Rattle.streetmap_feature_reader.proofs.Fronts.{string_front}
use Rattle.streetmap_feature_reader.proofs.usual_members.is_feature_type.Goals as goal

pub returns-in-Some-String : goal.returns-in-Some-String
returns-in-Some-String c same =
    let text = c.in-Some-String.text.now in
    let rest = c.next.new.self in
    let before : c.args.reader.now ≡ Token.string text ∷ rest = c.in-Some-String.ensures.value ∙ ap (λ k. token_of k ∷ rest) c.in-Some-String.field-0-is in
    let named : text ≡ codes "Feature" = (bytes_eq-Decides text (codes "Feature")).0 (sym c.eq.ensures ∙ same) in
    let shorter : length rest < length c.args.reader.now = rw before (omega arith) in
    (ap (value_at 126) before ∙ string_front 126 text rest ∙ ap (λ s. Some (string s, rest)) named, shorter)
