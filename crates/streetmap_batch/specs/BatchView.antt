-- Edits and batches of the code as plain values.
use Rattle.std.specs.Prelude.{List, map, string_bytes}
use Rattle.streetmap_batch.specs.BatchValue as value
use Rattle.streetmap_batch.specs.BatchValue.{EditValue, BatchValue}
use Rattle.streetmap_geojson.specs.FeatureValue.{FeatureValue}
use Rattle.streetmap_feature_text.specs.declared.written_feature.WrittenFeature.{WrittenFeature}
use Rattle.streetmap_batch.specs.Text.{Text}
use Rattle.streetmap_batch.specs.declared.edit.CollectionId.{CollectionId}
use Rattle.streetmap_batch.specs.declared.edit.Edit.{Edit}
use Rattle.streetmap_batch.specs.declared.edit.Edit.TheVariants.{Open, Insert, Replace, Delete}
use Rattle.streetmap_batch.specs.declared.batch.Batch.{Batch}

abbrev pub edit_value : Edit → EditValue
edit_value (Open collection title time) = value.«open» collection title time
edit_value (Insert collection feature) = value.insert collection feature
edit_value (Replace collection feature) = value.replace collection feature
edit_value (Delete collection id) = value.delete collection id

-- the collection and the feature of an edit
abbrev pub feature_edit_value : CollectionId × WrittenFeature → Text × FeatureValue
feature_edit_value p = (p.0, p.1)

abbrev pub edit_values : List Edit → List EditValue
edit_values edits = map edit_value edits

abbrev pub batch_value : Batch → BatchValue
batch_value b = record { key = string_bytes b.key; edits = edit_values b.edits.items }
