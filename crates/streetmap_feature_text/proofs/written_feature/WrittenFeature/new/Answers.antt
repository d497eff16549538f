use Rattle.std.proofs.Common.{ap, ◌∙◌, string_bytes}
use Rattle.streetmap_feature_text.specs.Packed.{unpacked}
use Rattle.streetmap_feature_text.specs.PackedIntervalView.{packed_interval_value}
use Rattle.streetmap_feature_text.specs.declared.written_feature.Written.{Written}
use Rattle.streetmap_feature_text.proofs.PackedFacts.{unpacked_again}
use Rattle.streetmap_feature_text.proofs.written_feature.WrittenFeature.new.Goals as goal

pub returns : goal.returns
returns c =
    let f = c.args.feature in
    ap (λ (k : Written). unpacked (string_bytes k.text) (packed_interval_value k.time)) c.in_ok-kept.ensures.ok
    ∙ ap (unpacked (string_bytes c.in_ok-text_of.field-0)) (c.new.ensures ∙ c.time.ensures)
    ∙ ap (λ text. unpacked text f.time) c.in_ok-text_of.ensures ∙ unpacked_again f f.time c.facts.ensures
