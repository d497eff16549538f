use Rattle.std.proofs.Common.{◌≡◌, None, Ok, sym, subst}
use Rattle.std.proofs.lemmas.Result.{IfOk-weaker}
use Rattle.serde_json.specs.Data.{Data}
use Rattle.serde_json.specs.Written.{compact_text}
use Rattle.streetmap_geojson.specs.FeatureValue.{untimed}
use Rattle.streetmap_geojson.specs.FeatureView.{feature_value}
use Rattle.streetmap_geojson.specs.FeatureMeaning.{ReadsAs}
use Rattle.streetmap_geojson.specs.JsonText.{json_of}
use Rattle.streetmap_feature_text.proofs.Again.{feature_again}
use Rattle.streetmap_feature_text.proofs.WrittenFeatures.{text_is_json}
use Rattle.streetmap_feature_text.proofs.feature_values.write_feature.Goals as goal

pub returns-clause-reads_again : goal.returns-clause-reads_again
returns-clause-reads_again c =
    let f = c.args.feature.now in
    IfOk-weaker c.write_members.result _ _ (λ v is. subst (λ (d : Data). ReadsAs None d (untimed (feature_value f))) (sym is) (feature_again (feature_value f) c.facts.ensures)) c.write_members.ensures

pub returns-clause-text : goal.returns-clause-text
returns-clause-text c =
    let f = c.args.feature.now in
    IfOk-weaker c.write_members.result _ _ (λ v is. subst (λ (d : Data). json_of (compact_text d) ≡ Ok d) (sym is) (text_is_json (feature_value f) c.facts.ensures)) c.write_members.ensures
