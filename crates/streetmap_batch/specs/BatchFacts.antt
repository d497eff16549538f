-- What each edit and each batch is: what their types keep.
use Rattle.std.specs.Prelude.{◌≤◌, Option, None, Some, length, All, IsTrue}
use Rattle.std.specs.Str.{is_utf8}
use Rattle.streetmap_geojson.specs.Id.{is_id}
use Rattle.streetmap_geojson.specs.FeatureInvariant.{IsFeature}
use Rattle.streetmap_batch.specs.Text.{Text}
use Rattle.streetmap_batch.specs.Names.{is_key, is_collection_id, is_title, is_time_property}
use Rattle.streetmap_batch.specs.ParsedBatches.{most_edits}
use Rattle.streetmap_batch.specs.BatchValue as edit
use Rattle.streetmap_batch.specs.BatchValue.{EditValue, BatchValue}

-- the title of a collection
abbrev pub IsTitle : Text → Type 0
IsTitle title = IsTrue (is_title title) × IsTrue (is_utf8 title)

-- the name of a time property, if one is given
abbrev pub IsTimePropertyIf : Option Text → Type 0
IsTimePropertyIf None = Unit {0}
IsTimePropertyIf (Some name) = IsTrue (is_time_property name) × IsTrue (is_utf8 name)

-- an edit names a collection; what it opens has a title and may have a time property, what it
-- inserts is a feature, and what it deletes has an id, a text in UTF-8
abbrev pub IsSoundEdit : EditValue → Type 0
IsSoundEdit (edit.«open» name title time) = IsTrue (is_collection_id name) × IsTitle title
    × IsTimePropertyIf time
IsSoundEdit (edit.insert name f) = IsTrue (is_collection_id name) × IsFeature f
IsSoundEdit (edit.replace name f) = IsTrue (is_collection_id name) × IsFeature f
IsSoundEdit (edit.delete name id) =
    IsTrue (is_collection_id name) × IsTrue (is_id id) × IsTrue (is_utf8 id)

-- a batch has a key, and at most 10,000 edits
pub record IsSoundBatch (b : BatchValue) : Type 0 where
  pub named : IsTrue (is_key b.key)
  pub few : length b.edits ≤ most_edits
  pub made : All IsSoundEdit b.edits
