use Rattle.std.proofs.Common.{◌++◌, ap, ◌∙◌, string_bytes}
use Rattle.streetmap_bodies.proofs.Texts.{before, reply_text}
use Rattle.streetmap_bodies.proofs.reply_body.push_reply.Goals as goal

pub returns-clause-bytes : goal.returns-clause-bytes
returns-clause-bytes c =
    before (string_bytes c.args.out.now) _ _ _ _ c.push_count.ensures.bytes (
    before (string_bytes c.push_count.new.out) _ _ _ _ c.push_count-2.ensures.bytes (
    before (string_bytes c.push_count-2.new.out) _ _ _ _ c.push.ensures.bytes (
    before (string_bytes c.push.new.out) _ _ _ _ c.push-2.ensures.bytes (
    before (string_bytes c.push-2.new.out) _ _ _ _ c.push_count-3.ensures.bytes (
    before (string_bytes c.push_count-3.new.out) _ _ _ _ c.push_count-4.ensures.bytes (
    before (string_bytes c.push_count-4.new.out) _ _ _ _ c.push_count-5.ensures.bytes c.push-3.ensures.bytes))))))
    ∙ ap (λ l. string_bytes c.args.out.now ++ l) (reply_text c.args.key.now c.args.counts c.args.serial c.requires.key)
