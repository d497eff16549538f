-- The text of a batch, part by part.
use Rattle.std.proofs.Common.{◌≡◌, false, ◌++◌, refl, codes}
use Rattle.serde_json.specs.Data.{string}
use Rattle.serde_json.specs.Written.{compact_text, items_text}
use Rattle.json.specs.Print.{escape_byte}
use Rattle.streetmap_geojson.specs.FeatureValue.{FeatureValue}
use Rattle.streetmap_feature_text.specs.Written.{feature_data}
use Rattle.streetmap_batch.specs.Text.{Text}
use Rattle.streetmap_batch.specs.BatchValue.{BatchValue}
use Rattle.streetmap_batch.specs.BatchText.{feature_edit_data, edits_data, batch_data, batch_text}

-- what is written of an edit of a feature, one after another
abbrev pub feature_edit_parts : Text → Text → FeatureValue → Text
feature_edit_parts op collection f = codes "{\"collection\":" ++ (compact_text (string collection) ++ (codes ",\"feature\":" ++ (compact_text (feature_data f) ++ (codes ",\"op\":" ++ (compact_text (string op) ++ codes "}")))))

pub feature_edit_text_is : (op collection : Text) (f : FeatureValue) → feature_edit_parts op collection f ≡ compact_text (feature_edit_data op collection f)
unfolding escape_byte
feature_edit_text_is op collection f = refl

-- what is written of a batch, one after another
abbrev pub batch_parts : BatchValue → Text
batch_parts b = codes "{\"edits\":[" ++ (items_text false (edits_data b.edits) ++ (codes ",\"key\":" ++ (compact_text (string b.key) ++ codes "}")))

pub batch_text_is : (b : BatchValue) → batch_parts b ≡ batch_text b
unfolding escape_byte batch_text batch_data
batch_text_is b = refl
