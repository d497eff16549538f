use Rattle.std.proofs.Common.{◌≡◌, Option, Some, None, option_map, IfSome, IsSome, IsUtf8, Bool, true, false, cond, sym, refl, ap, ◌∙◌}
use Rattle.std.proofs.lemmas.Str.{IsUtf8-from_is_utf8, is_utf8-from_IsUtf8}
use Rattle.std.specs.Str.{is_utf8}
use Rattle.streetmap_batch.specs.Text.{Text}
use Rattle.streetmap_lines.specs.Request.{request_of, IsRequestLine}
use Rattle.streetmap_lines.specs.RequestView.{request_value}
use Rattle.streetmap_lines.specs.declared.request.Request.{Request}
use Rattle.streetmap_lines.proofs.Requests.{request_of-found, request_of-only}
use Rattle.streetmap_lines.proofs.request.read_request.Goals as goal

found : (line : Text) (o : Option Request) → (IsUtf8 line → option_map request_value o ≡ request_of line) → (IsSome o → IsUtf8 line) →
    IfSome o (λ r. IsRequestLine line (request_value r))
found line None e is_text = tt
found line (Some r) e is_text = (is_text refl, request_of-found line (request_value r) (sym (e (is_text refl))))

value : (v : Bool) (line : Text) (o : Option Request) → is_utf8 line ≡ v → (IsUtf8 line → option_map request_value o ≡ request_of line) →
    (¬ (IsUtf8 line) → o ≡ None)
    → option_map request_value o ≡ cond v (request_of line) None
value true line o e text other = text (IsUtf8-from_is_utf8 line e)
value false line o e text other = ap (option_map request_value) (other (λ utf8. let k : is_utf8 line ≡ true = is_utf8-from_IsUtf8 line utf8 in cc))

pub returns-clause-value : goal.returns-clause-value
returns-clause-value c =
    value (is_utf8 c.args.line.now) c.args.line.now c.read_line.result refl c.read_line.ensures.text c.read_line.ensures.other

pub returns-clause-found : goal.returns-clause-found
returns-clause-found c = found c.args.line.now c.read_line.result c.read_line.ensures.text c.read_line.ensures.is_text

pub returns-clause-only : goal.returns-clause-only
returns-clause-only c = λ r spelled. c.read_line.ensures.text spelled.0 ∙ request_of-only c.args.line.now r spelled.1
