use Rattle.std.proofs.Common.{◌++◌, ap, ◌∙◌, string_bytes}
use Rattle.std.specs.Option.{option_copied}
use Rattle.streetmap_bodies.proofs.Texts.{before, error_text}
use Rattle.streetmap_bodies.proofs.error_body.push_error.Goals as goal

pub returns-clause-bytes : goal.returns-clause-bytes
returns-clause-bytes c =
    before (string_bytes c.args.out.now) _ _ _ _ c.push.ensures.bytes (
    before (string_bytes c.push.new.out) _ _ _ _ c.push_cause.ensures.bytes (
    before (string_bytes c.push_cause.new.out) _ _ _ _ c.push-2.ensures.bytes (
    before (string_bytes c.push-2.new.out) _ _ _ _ c.push-3.ensures.bytes (
    before (string_bytes c.push-3.new.out) _ _ _ _ c.push-4.ensures.bytes (
    before (string_bytes c.push-4.new.out) _ _ _ _ c.push-5.ensures.bytes (
    before (string_bytes c.push-5.new.out) _ _ _ _ c.push-6.ensures.bytes (
    before (string_bytes c.push-6.new.out) _ _ _ _ c.push_place.ensures.bytes c.push-7.ensures.bytes)))))))
    ∙ ap (λ l. string_bytes c.args.out.now ++ l) (error_text c.args.code.now c.args.description.now c.args.place (option_copied c.args.cause) c.requires.plain_code c.requires.plain_description c.requires.plain_cause)
