use Rattle.streetmap_geojson.specs.FeatureView.{feature_value}
use Rattle.streetmap_feature_reader.proofs.TextsRead.{text_found, text_read}
use Rattle.streetmap_feature_reader.proofs.reader.read_feature_text.Goals as goal

pub returns-clause-found : goal.returns-clause-found
returns-clause-found c = text_found feature_value c.read_any.result _ c.args.bytes.now c.read_any.ensures

pub returns-clause-only : goal.returns-clause-only
returns-clause-only c = text_read feature_value c.read_any.result _ c.args.bytes.now c.read_any.ensures
