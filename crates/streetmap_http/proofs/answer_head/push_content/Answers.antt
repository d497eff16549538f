use Rattle.std.proofs.Common.{◌≡◌, ℕ, [], ◌++◌, ◌∙◌, ap, sym, false, codes, arith}
use Rattle.std.specs.Prelude.{◌==◌, if◌then◌else◌}
use Rattle.std.specs.Fmt.{decimal}
use Rattle.std.specs.String.{string_bytes}
use Rattle.std.proofs.lemmas.Bool.Decides.{nat_tests}
use Rattle.streetmap_http.specs.HeadLines.{media_text}
use Rattle.streetmap_http.proofs.Pushes.{and_then}
use Rattle.streetmap_http.proofs.answer_head.push_content.Goals as goal

is_other : (n m : ℕ) → m ≡ n → (m ≡ 304 → ⊥) → (n == 304) ≡ false
is_other n m same other = grind (arith, nat_tests)

pub returns-clause-bytes : goal.returns-clause-bytes
returns-clause-bytes c =
    let old = string_bytes c.args.out.now in
    let kind = c.push-2.ensures.bytes ∙ ap (λ l. string_bytes c.push.new.out ++ l) c.text.ensures in
    let other : (c.args.status == 304) ≡ false = is_other c.args.status c.as_u16.result c.as_u16.ensures.value c.if-as_u16-eq304.false in
    and_then old _ _ _ _ (and_then old _ _ _ _ (and_then old _ _ _ _ (and_then old _ _ _ _ c.push.ensures.bytes kind) c.push-3.ensures.bytes)
    c.push_number.ensures.bytes) c.push-4.ensures.bytes
    ∙ ap (λ b. old ++ (if b then [] else codes "Content-Type: " ++ media_text c.args.kind ++ codes "\r\nContent-Length: " ++ decimal c.args.len ++ codes "\r\n")) (sym other)
