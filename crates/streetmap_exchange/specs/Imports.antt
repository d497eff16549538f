-- The batch that puts the features of a text into a collection, or its first fault: the lines of
-- `import_of` are in the order of refusals.
use Rattle.std.specs.Prelude.{ℕ, Bool, true, List, length, map, None, Result, Ok, Err, nat_le}
use Rattle.std.specs.Prelude.{if◌then◌else◌}
use Rattle.serde_json.specs.Data.{Data}
use Rattle.streetmap_geojson.specs.declared.fault.Fault.{Fault}
use Rattle.streetmap_geojson.specs.declared.fault.CollectionFault.{CollectionFault}
use Rattle.streetmap_geojson.specs.declared.fault.CollectionFault.TheVariants as collections
use Rattle.streetmap_geojson.specs.FeatureValue.{FeatureValue}
use Rattle.streetmap_geojson.specs.Collection.{features}
use Rattle.streetmap_geojson.specs.JsonText.{json_of}
use Rattle.streetmap_batch.specs.Text.{Text}
use Rattle.streetmap_batch.specs.Names.{is_key, is_collection_id}
use Rattle.streetmap_batch.specs.ParsedBatches.{most_edits}
use Rattle.streetmap_batch.specs.BatchValue as edit
use Rattle.streetmap_batch.specs.BatchValue.{EditValue, BatchValue}
use Rattle.streetmap_exchange.specs.declared.fault.ImportFault.{ImportFault}
use Rattle.streetmap_exchange.specs.declared.fault.ImportFault.TheVariants.{BadKey, BadBatch}
use Rattle.streetmap_exchange.specs.declared.fault.ImportFault.TheVariants.{TextTooLarge, NotJson}
use Rattle.streetmap_exchange.specs.declared.fault.ImportFault.TheVariants.{WrongType, BadFeature}
use Rattle.streetmap_exchange.specs.declared.fault.ImportFault.TheVariants.{TooManyEdits, Memory}

-- one step after another: the first fault is the result
infixl 10 ◌>>=◌
abbrev pub ◌>>=◌ : {A B : Type 0} → Result A ImportFault → (A → Result B ImportFault)
    → Result B ImportFault
(Ok x) >>= f = f x
(Err e) >>= f = Err e

-- passes, or is that fault
abbrev pub unless : Bool → ImportFault → Result Bool ImportFault
unless b fault = if b then Ok true else Err fault

-- the most bytes that a text may have
abbrev pub most_bytes : ℕ
most_bytes = 8388608

-- the edit that puts a feature into the collection: an insert, or a replace
abbrev pub edit_of : (replace : Bool) → Text → FeatureValue → EditValue
edit_of replace collection f = if replace then edit.replace collection f
    else edit.insert collection f

-- the batch of the features, in their order
abbrev pub batch_of_features : (replace : Bool) (key collection : Text) → List FeatureValue
    → BatchValue
batch_of_features replace key collection fs = record
    { key = key; edits = map (edit_of replace collection) fs }

abbrev pub as_json : Result Data Fault → Result Data ImportFault
as_json (Ok d) = Ok d
as_json (Err fault) = Err NotJson

-- a fault without a place is that the text is not a collection
abbrev pub as_feature : Result (List FeatureValue) CollectionFault
    → Result (List FeatureValue) ImportFault
as_feature (Ok fs) = Ok fs
as_feature (Err (collections.Fault fault)) = Err WrongType
as_feature (Err (collections.At place fault)) = Err (BadFeature place fault)
as_feature (Err collections.Memory) = Err Memory

-- the features of a text, read without a time property: their times are set when their edits act.
-- One without an id has its place, counted from 1, as id
abbrev pub features_of : List ℕ → Result (List FeatureValue) ImportFault
features_of text = as_json (json_of text) >>= λ d. as_feature (features None d)

-- a text by its features, which must be no more than the edits of a batch
abbrev pub import_text : (replace : Bool) (key collection : Text) → List ℕ
    → Result BatchValue ImportFault
import_text replace key collection text = do
  fs ← features_of text
  few ← unless (nat_le (length fs) most_edits) TooManyEdits
  Ok (batch_of_features replace key collection fs)

unfoldable pub import_of : (replace : Bool) (key collection : Text) → List ℕ
    → Result BatchValue ImportFault
import_of replace key collection text = do
  keyed ← unless (is_key key) BadKey
  placed ← unless (is_collection_id collection) BadBatch
  short ← unless (nat_le (length text) most_bytes) TextTooLarge
  import_text replace key collection text
