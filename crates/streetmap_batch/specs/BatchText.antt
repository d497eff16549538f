-- The text of a batch. It distinguishes batches by what they mean, not by how their JSON was
-- written.
use Rattle.std.specs.Prelude.{List, Option, None, Some, codes, map}
use Rattle.serde_json.specs.Data.{Data, string, array, object, Items, Members, no_members, member}
use Rattle.serde_json.specs.View.{items_of}
use Rattle.serde_json.specs.Written.{compact_text}
use Rattle.streetmap_geojson.specs.FeatureValue.{FeatureValue}
use Rattle.streetmap_feature_text.specs.Written.{feature_data}
use Rattle.streetmap_batch.specs.Text.{Text}
use Rattle.streetmap_batch.specs.BatchValue as value
use Rattle.streetmap_batch.specs.BatchValue.{EditValue, BatchValue}

-- the member `time`, if a time property was given
abbrev pub time_member : Option Text → Members → Members
time_member None rest = rest
time_member (Some time) rest = member (codes "time") (string time) rest

-- an edit of a feature
abbrev pub feature_edit_data : Text → Text → FeatureValue → Data
feature_edit_data op collection feature =
    object (member (codes "collection") (string collection)
    (member (codes "feature") (feature_data feature)
    (member (codes "op") (string op) no_members)))

-- an open edit always has its title, and a deleted id is text
unfoldable pub edit_data : EditValue → Data
edit_data (value.«open» collection title time) =
    object (member (codes "collection") (string collection)
    (member (codes "op") (string (codes "open"))
    (time_member time (member (codes "title") (string title) no_members))))
edit_data (value.insert collection feature) = feature_edit_data (codes "insert") collection feature
edit_data (value.replace collection feature) = feature_edit_data (codes "replace") collection
    feature
edit_data (value.delete collection id) =
    object (member (codes "collection") (string collection)
    (member (codes "id") (string id)
    (member (codes "op") (string (codes "delete")) no_members)))

abbrev pub edits_data : List EditValue → Items
edits_data edits = items_of (map edit_data edits)

unfoldable pub batch_data : BatchValue → Data
batch_data b = object (member (codes "edits") (array (edits_data b.edits))
    (member (codes "key") (string b.key) no_members))

-- the compact text, with the members of each object in byte order of their names
unfoldable pub batch_text : BatchValue → Text
batch_text b = compact_text (batch_data b)
