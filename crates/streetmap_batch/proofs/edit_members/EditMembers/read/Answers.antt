use Rattle.std.proofs.Common.{◌≡◌, [], ◌∷◌, Err, sym, ap, subst, ◌∙◌, arith}
use Rattle.json.specs.Json.{parse_map}
use Rattle.json.specs.Reads.{token_of}
use Rattle.serde_json.specs.Data.{object}
use Rattle.serde_json.specs.View.{view}
use Rattle.streetmap_json.specs.Values.{value_at}
use Rattle.streetmap_json.proofs.Fronts.{object_opens, no_object, empty_front, handed_on}
use Rattle.streetmap_batch.specs.BatchTokens.{Takes}
use Rattle.streetmap_batch.specs.EditMembers.{IsObjectRead}
use Rattle.streetmap_batch.proofs.edit_members.EditMembers.read.Goals as goal

pub returns-in_default-clause-takes : goal.returns-in_default-clause-takes
returns-in_default-clause-takes c =
    let empty : c.args.reader.now ≡ [] = grind arith in
    ap (value_at c.args.depth) empty ∙ empty_front c.args.depth

pub returns-in_err-read_members-clause-takes : goal.returns-in_err-read_members-clause-takes
returns-in_err-read_members-clause-takes c =
    let ts = c.next.new.self in
    let first : c.args.reader.now ≡ token_of c.in-Some.token ∷ ts = c.in-Some.ensures.value in
    let brace = ap (λ t. t ∷ ts) (c.opens_object.ensures.yes c.if-opens_object.true) in
    let opened = ap (value_at c.args.depth) (first ∙ brace) ∙ object_opens c.args.depth ts (omega arith) in
    let fault = c.in_err-read_members.field-0.0 in
    let same : c.from_residual.result ≡ Err fault = grind arith in
    subst (λ r. Takes IsObjectRead r c.read_members.new.reader (value_at c.args.depth c.args.reader.now)) (sym same)
    (handed_on fault _ _ (λ none. opened ∙ ap (parse_map object) none) c.in_err-read_members.ensures.takes)

pub returns-in_ok-read_members-clause-takes : goal.returns-in_ok-read_members-clause-takes
returns-in_ok-read_members-clause-takes c =
    let ts = c.next.new.self in
    let first : c.args.reader.now ≡ token_of c.in-Some.token ∷ ts = c.in-Some.ensures.value in
    let brace = ap (λ t. t ∷ ts) (c.opens_object.ensures.yes c.if-opens_object.true) in
    let opened = ap (value_at c.args.depth) (first ∙ brace) ∙ object_opens c.args.depth ts (omega arith) in
    let taken = c.in_ok-read_members.ensures.takes in
    (object taken.0, opened ∙ ap (parse_map object) taken.1, ap object taken.2)

pub returns-in_ok-read_token-clause-takes : goal.returns-in_ok-read_token-clause-takes
returns-in_ok-read_token-clause-takes c =
    let ts = c.next.new.self in
    let v = view c.in_ok-read_token.field-0 in
    let first : c.args.reader.now ≡ token_of c.in-Some.token ∷ ts = c.in-Some.ensures.value in
    let taken = c.in_ok-read_token.ensures.takes in
    let other = c.opens_object.ensures.no c.if-opens_object.false in
    (v, ap (value_at c.args.depth) first ∙ taken, no_object c.args.depth (token_of c.in-Some.token) ts c.read_token.new.reader v taken other)
