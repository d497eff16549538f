-- Edits and batches as plain values.
use Rattle.std.specs.Prelude.{List, Option}
use Rattle.streetmap_geojson.specs.FeatureValue.{FeatureValue}
use Rattle.streetmap_batch.specs.Text.{Text}

-- a collection is opened, or a feature of a collection is inserted, replaced or deleted
pub data EditValue : Type 0 where
  «open» : (collection title : Text) (time : Option Text) → EditValue
  insert : (collection : Text) (feature : FeatureValue) → EditValue
  replace : (collection : Text) (feature : FeatureValue) → EditValue
  delete : (collection id : Text) → EditValue

-- edits that act together or not at all, under a key
pub record BatchValue : Type 0 where
  pub key : Text
  pub edits : List EditValue
