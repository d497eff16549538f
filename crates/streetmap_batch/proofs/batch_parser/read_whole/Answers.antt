use Rattle.std.proofs.Common.{◌≡◌, [], ◌∷◌, true, false, Some, Err, sym, ap, subst, ◌∙◌, arith}
use Rattle.json.specs.Json.{value, parse_map}
use Rattle.json.specs.Reads.{token_of}
use Rattle.serde_json.specs.Data.{object}
use Rattle.streetmap_json.specs.Values.{value_at, whole}
use Rattle.streetmap_json.proofs.Fronts.{object_opens, whole_value}
use Rattle.streetmap_batch.specs.BatchTokens.{IsWholeRead}
use Rattle.streetmap_batch.proofs.Parts.{without_tokens, without_brace, with_more_after, fault_of_members}
use Rattle.streetmap_batch.proofs.batch_parser.read_whole.Goals as goal

pub returns-in_default : goal.returns-in_default
returns-in_default c =
    let empty : c.args.reader.now ≡ [] = grind arith in
    without_tokens c.args.reader.now empty

pub returns-then-not-opens_object : goal.returns-then-not-opens_object
returns-then-not-opens_object c =
    let other : c.opens_object.result ≡ false = grind arith in
    without_brace c.args.reader.now c.next.new.self (token_of c.in-Some.token) c.in-Some.ensures.value (c.opens_object.ensures.no other)

pub returns-in_err-parts : goal.returns-in_err-parts
returns-in_err-parts c =
    let ts = c.next.new.self in
    let yes : c.opens_object.result ≡ true = grind arith in
    let opened = ap (value_at 127) (c.in-Some.ensures.value ∙ ap (λ t. t ∷ ts) (c.opens_object.ensures.yes yes)) ∙ object_opens 127 ts (omega arith) in
    let fault = c.in_err-parts.field-0.0 in
    let same : c.from_residual.result ≡ Err fault = grind arith in
    subst (λ r. IsWholeRead (whole (value 127 c.args.reader.now)) r) (sym same) (fault_of_members c.args.reader.now ts fault opened c.in_err-parts.ensures)

pub returns-in-Some-next : goal.returns-in-Some-next
returns-in-Some-next c =
    let ts = c.next.new.self in
    let yes : c.opens_object.result ≡ true = grind arith in
    let opened = ap (value_at 127) (c.in-Some.ensures.value ∙ ap (λ t. t ∷ ts) (c.opens_object.ensures.yes yes)) ∙ object_opens 127 ts (omega arith) in
    let taken = c.in_ok-parts.ensures in
    let following = ap (λ rest. Some (object taken.0, rest)) c.in-Some-next.ensures.value in
    with_more_after c.args.reader.now c.next-2.new.self (object taken.0) (token_of c.in-Some-next.field-0) (opened ∙ ap (parse_map object) taken.1 ∙ following)

pub returns-in-None : goal.returns-in-None
returns-in-None c =
    let ts = c.next.new.self in
    let yes : c.opens_object.result ≡ true = grind arith in
    let opened = ap (value_at 127) (c.in-Some.ensures.value ∙ ap (λ t. t ∷ ts) (c.opens_object.ensures.yes yes)) ∙ object_opens 127 ts (omega arith) in
    let taken = c.in_ok-parts.ensures in
    let ended : c.read_members.new.reader ≡ [] = grind arith in
    (taken.0, whole_value (value 127 c.args.reader.now) (object taken.0) (opened ∙ ap (parse_map object) taken.1 ∙ ap (λ rest. Some (object taken.0, rest)) ended), taken.2)
