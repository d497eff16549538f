use Rattle.std.proofs.Common.{ap, ◌∙◌}
use Rattle.serde_json.specs.Written.{has_float, compact_text}
use Rattle.streetmap_geojson.specs.FeatureValue.{FeatureValue}
use Rattle.streetmap_bodies.specs.Bodies.{linked_feature_data}
use Rattle.streetmap_bodies.proofs.BodyTexts.{no_float_linked}
use Rattle.streetmap_bodies.proofs.feature_body.feature_text.Goals as goal

pub returns : goal.returns
returns c =
    let linked = λ (f : FeatureValue). linked_feature_data c.args.root.now c.args.name.now f in
    let is = c.in_ok-value.ensures ∙ ap linked c.in_ok-unpack.ensures in
    let whole = ap has_float is ∙ no_float_linked c.args.root.now c.args.name.now c.args.feature.now c.facts.ensures in
    c.in_ok-text.ensures.text whole ∙ ap compact_text is
