use Rattle.std.proofs.Common.{ap, ◌∙◌}
use Rattle.percent_encoding.specs.Percent.{percent_decode}
use Rattle.streetmap_routes.specs.Operations.{decoded, if_text, segment}
use Rattle.streetmap_routes.proofs.Decoding.{decoded_text}
use Rattle.streetmap_routes.proofs.routes.decoded.Goals as goal

pub returns : goal.returns
unfolding decoded
returns c = decoded_text _ _ c.in_ok-found.ensures ∙ ap (λ b. if_text (percent_decode b)) (c.segment.ensures ∙ ap (segment c.args.place) c.as_bytes.ensures.value)
