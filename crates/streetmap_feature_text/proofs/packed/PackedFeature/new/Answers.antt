use Rattle.std.proofs.Common.{ap, ◌∙◌, option_map}
use Rattle.streetmap_moment.specs.Views.{interval_value}
use Rattle.streetmap_feature_text.specs.Packed.{unpacked}
use Rattle.streetmap_feature_text.specs.PackedIntervalView.{packed_interval_value}
use Rattle.streetmap_feature_text.specs.declared.packed.Packing.{Packing}
use Rattle.streetmap_feature_text.proofs.PackedFacts.{unpacked_again}
use Rattle.streetmap_feature_text.proofs.packed.PackedFeature.new.Goals as goal

pub returns : goal.returns
returns c =
    let time = option_map interval_value c.args.time in
    ap (λ (k : Packing). unpacked k.text (packed_interval_value k.time)) c.in_ok-kept.ensures.ok
    ∙ ap (unpacked c.args.text) c.new.ensures
    ∙ ap (λ text. unpacked text time) c.requires ∙ unpacked_again c.args.feature.now time c.facts.ensures
