use Rattle.std.proofs.Common.{◌≡◌, false, ap₂}
use Rattle.std.proofs.lemmas.Result.{IfOk-weaker}
use Rattle.streetmap_geojson.specs.FeatureView.{feature_value}
use Rattle.streetmap_placing.specs.Text.{is_requested}
use Rattle.streetmap_loading.specs.TextView.{rules_value}
use Rattle.streetmap_loading.proofs.UsualLines.{usual_found}
use Rattle.streetmap_loading.proofs.feature_line.usual_feature.Goals as goal

pub returns-in-None-Number : goal.returns-in-None-Number
returns-in-None-Number c =
    let r = rules_value c.args.rules.now in
    let plain : is_requested r.numbers.placement r.numbers.fractions ≡ false = ap₂ is_requested c.in-None-Number.is-0 c.in-None-Number.is-1 in
    IfOk-weaker c.read_usual.result _ _ (λ found usual. usual_found feature_value r c.args.text.now found plain usual) c.read_usual.ensures
