use Rattle.std.proofs.Common.{◌≡◌, All, None, Ok, map, sym, subst}
use Rattle.std.proofs.lemmas.List.Elements.{All-map}
use Rattle.std.proofs.lemmas.Result.{IfOk-weaker}
use Rattle.serde_json.specs.Data.{Data}
use Rattle.serde_json.specs.Written.{compact_text}
use Rattle.streetmap_geojson.specs.FeatureValue.{untimed}
use Rattle.streetmap_geojson.specs.FeatureView.{feature_value}
use Rattle.streetmap_geojson.specs.Collection.{AreFeatures}
use Rattle.streetmap_geojson.specs.JsonText.{json_of}
use Rattle.streetmap_geojson.specs.FeatureInvariant.{IsFeature}
use Rattle.streetmap_feature_text.proofs.WrittenCollections.{collection_again, collection_is_json}
use Rattle.streetmap_feature_text.proofs.feature_values.write_collection.Goals as goal

pub returns-clause-reads_again : goal.returns-clause-reads_again
returns-clause-reads_again c =
    let fs = map feature_value c.args.features.now in
    let facts : All IsFeature fs = All-map IsFeature feature_value c.args.features.now c.facts_of_each.ensures in
    IfOk-weaker c.write_whole.result _ _ (λ v is. subst (λ (d : Data). AreFeatures None d (map untimed fs)) (sym is) (collection_again fs facts)) c.write_whole.ensures

pub returns-clause-text : goal.returns-clause-text
returns-clause-text c =
    let fs = map feature_value c.args.features.now in
    let facts : All IsFeature fs = All-map IsFeature feature_value c.args.features.now c.facts_of_each.ensures in
    IfOk-weaker c.write_whole.result _ _ (λ v is. subst (λ (d : Data). json_of (compact_text d) ≡ Ok d) (sym is) (collection_is_json fs facts)) c.write_whole.ensures
