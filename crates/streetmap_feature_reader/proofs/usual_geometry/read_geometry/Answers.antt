use Rattle.std.proofs.Common.{◌≡◌, ◌<◌, ◌∷◌, length, Some, ap, sym, ◌∙◌, arith, rules}
use Rattle.json.specs.Reads.{token_of}
use Rattle.json.specs.Token.{Token}
use Rattle.serde_json.specs.Data.{null}
use Rattle.serde_json.specs.View.{view}
use Rattle.serde_json.specs.declared.value.Value.{Null, the_lemmas}
use Rattle.streetmap_json.specs.Values.{value_at}
use Rattle.streetmap_json.proofs.Fronts.{object_opens}
use Rattle.streetmap_feature_reader.proofs.Fronts.{null_front, where_found}
use Rattle.streetmap_feature_reader.proofs.usual_geometry.read_geometry.Goals as goal

pub returns-in-Some-Null : goal.returns-in-Some-Null
returns-in-Some-Null c =
    let rest = c.next.new.self in
    let before : c.args.reader.now ≡ Token.null ∷ rest = c.in-Some-Null.ensures.value ∙ ap (λ k. token_of k ∷ rest) c.in-Some-Null.field-0-is in
    let shorter : length rest < length c.args.reader.now = rw before (omega arith) in
    let seen : view Null ≡ null = search (rules, the_lemmas) in
    (ap (value_at 126) before ∙ null_front 126 rest ∙ ap (λ d. Some (d, rest)) (sym seen), shorter)

pub returns-in-Some-BeginObject : goal.returns-in-Some-BeginObject
returns-in-Some-BeginObject c =
    let rest = c.next.new.self in
    let before : c.args.reader.now ≡ Token.begin_object ∷ rest = c.in-Some-BeginObject.ensures.value ∙ ap (λ k. token_of k ∷ rest) c.in-Some-BeginObject.field-0-is in
    let shorter : length rest < length c.args.reader.now = rw before (omega arith) in
    let opens = ap (value_at 126) before ∙ object_opens 126 rest (omega arith) in
    where_found c.read_object.result (λ geometry is. (opens ∙ is.0, omega (arith, shorter, is.1))) c.read_object.ensures
