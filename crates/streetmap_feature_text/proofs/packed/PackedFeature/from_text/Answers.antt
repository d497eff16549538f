use Rattle.std.proofs.Common.{ap, ◌∙◌}
use Rattle.streetmap_geojson.specs.FeatureValue.{retimed}
use Rattle.streetmap_feature_text.specs.Packed.{unpacked}
use Rattle.streetmap_feature_text.specs.PackedIntervalView.{packed_interval_value}
use Rattle.streetmap_feature_text.specs.declared.packed.Packing.{Packing}
use Rattle.streetmap_feature_text.proofs.PackedFacts.{unpacked_again}
use Rattle.streetmap_feature_text.proofs.packed.PackedFeature.from_text.Goals as goal

pub returns : goal.returns
returns c = λ f h.
    ap (λ (k : Packing). unpacked k.text (packed_interval_value k.time)) c.in_ok-kept.ensures.ok
    ∙ ap (unpacked c.in_ok-text.text) (c.new.ensures ∙ h.timed)
    ∙ ap (λ text. unpacked text f.time) (c.in_ok-text.ensures ∙ c.as_bytes.ensures.value ∙ h.written) ∙ unpacked_again f f.time h.is
