-- "A text is imported by the batch": by cases, with no order of steps.
use Rattle.std.specs.Prelude.{◌≡◌, ◌≤◌, ℕ, Bool, List, length, None, Ok, IsTrue}
use Rattle.serde_json.specs.Data.{Data}
use Rattle.streetmap_geojson.specs.FeatureValue.{FeatureValue}
use Rattle.streetmap_geojson.specs.Collection.{AreFeatures}
use Rattle.streetmap_geojson.specs.JsonText.{json_of}
use Rattle.streetmap_batch.specs.Text.{Text}
use Rattle.streetmap_batch.specs.Names.{is_key, is_collection_id}
use Rattle.streetmap_batch.specs.ParsedBatches.{most_edits}
use Rattle.streetmap_batch.specs.BatchValue.{BatchValue}
use Rattle.streetmap_exchange.specs.Imports.{most_bytes, batch_of_features}

-- the text is JSON of a FeatureCollection, and the batch puts each of its features into the
-- collection, in their order
pub record IsImport (replace : Bool) (key collection : Text) (text : List ℕ) (b : BatchValue) : Type
    0 where
  pub keyed : IsTrue (is_key key)
  pub placed : IsTrue (is_collection_id collection)
  pub short : length text ≤ most_bytes
  pub value : Data
  pub reported : json_of text ≡ Ok value
  pub features : List FeatureValue
  pub read : AreFeatures None value features
  pub few : length features ≤ most_edits
  pub made : b ≡ batch_of_features replace key collection features
