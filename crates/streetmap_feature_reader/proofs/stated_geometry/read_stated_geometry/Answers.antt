use Rattle.std.proofs.Common.{◌≡◌, [], ◌∷◌, sym, ap, subst, ◌∙◌, arith}
use Rattle.json.specs.Reads.{token_of}
use Rattle.json.specs.Token.{Token}
use Rattle.streetmap_json.specs.Values.{value_at, Takes}
use Rattle.streetmap_json.proofs.Fronts.{object_opens, empty_front}
use Rattle.streetmap_geojson.specs.FeatureMembers.{geometry_data}
use Rattle.streetmap_feature_reader.proofs.stated_geometry.read_stated_geometry.Goals as goal

pub returns-in-Some-BeginObject-clause-takes : goal.returns-in-Some-BeginObject-clause-takes
returns-in-Some-BeginObject-clause-takes c =
    let rest = c.next.new.self in
    let first : c.args.reader.now ≡ Token.begin_object ∷ rest = c.in-Some-BeginObject.ensures.value ∙ ap (λ k. token_of k ∷ rest) c.in-Some-BeginObject.field-0-is in
    let opens = ap (value_at c.args.depth) first ∙ object_opens c.args.depth rest (omega arith) in
    subst (λ o. Takes geometry_data c.read_object.result c.read_object.new.reader o) (sym opens) c.read_object.ensures.takes

pub returns-in-None-clause-takes : goal.returns-in-None-clause-takes
returns-in-None-clause-takes c =
    let empty : c.args.reader.now ≡ [] = grind arith in
    ap (value_at c.args.depth) empty ∙ empty_front c.args.depth
