use Rattle.std.proofs.Common.{◌≡◌, ◌∙◌, ◌++◌, ap, length, arith}
use Rattle.std.specs.Prelude.{string_bytes}
use Rattle.streetmap_http.specs.AnswerHead.{head_text}
use Rattle.streetmap_web.specs.Response.{response_text, head_of}
use Rattle.streetmap_web.specs.Responds.{response_value}
use Rattle.streetmap_web.proofs.answer.finish.Goals as goal

pub returns : goal.returns
unfolding response_text
returns c =
    let p = response_value c.args.response in
    let len : c.len.result ≡ length (string_bytes c.args.response.body) = omega (arith, c.len.ensures, c.args.response.body.bytes.ok.0) in
    let text : string_bytes c.push_head.new.out ≡ head_text (head_of c.args.closes p) =
    c.push_head.ensures.bytes ∙ ap (λ t. t ++ head_text (record (head_of c.args.closes p) { len = c.len.result })) c.requires.blank
    ∙ ap (λ n. head_text (record (head_of c.args.closes p) { len = n })) len in
    ap (λ t. t ++ string_bytes c.sent_body.result) text ∙ ap (λ t. head_text (head_of c.args.closes p) ++ t) c.sent_body.ensures
