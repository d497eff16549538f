-- The batch that a value is, or its first fault in the order of refusals.
use Rattle.std.specs.Prelude.{ℕ, ◌+◌, Bool, true, false, ◌&&◌, List, [], ◌∷◌, length, codes}
use Rattle.std.specs.Prelude.{bytes_eq, Option, None, Some, option_map, option_and_then, ok_or}
use Rattle.std.specs.Prelude.{Result, Ok, Err, nat_le, if◌then◌else◌}
use Rattle.std.specs.List.{list_any}
use Rattle.serde_json.specs.Data.{Data, object, Items, no_items, item, Members, no_members, member}
use Rattle.serde_json.specs.Find.{as_array, as_str, get}
use Rattle.streetmap_geojson.specs.declared.fault.Fault.{Fault}
use Rattle.streetmap_geojson.specs.FeatureValue.{FeatureValue}
use Rattle.streetmap_geojson.specs.ParsedFeatures.{feature}
use Rattle.streetmap_geojson.specs.Id.{id_from}
use Rattle.streetmap_geojson.specs.JsonText.{json_of}
use Rattle.streetmap_batch.specs.Text.{Text}
use Rattle.streetmap_batch.specs.Names.{is_key, is_collection_id, is_title, is_time_property}
use Rattle.streetmap_batch.specs.Names.{passing}
use Rattle.streetmap_batch.specs.BatchValue as value
use Rattle.streetmap_batch.specs.BatchValue.{EditValue, BatchValue}
use Rattle.streetmap_batch.specs.declared.batch_fault.BatchFault.{BatchFault}
use Rattle.streetmap_batch.specs.declared.batch_fault.BatchFault.TheVariants.{BadBatch, BadKey}
use Rattle.streetmap_batch.specs.declared.batch_fault.BatchFault.TheVariants.{TooManyEdits}
use Rattle.streetmap_batch.specs.declared.batch_fault.BatchFault.TheVariants.{BadFeature}
use Rattle.streetmap_batch.specs.declared.format.Format.{Format}
use Rattle.streetmap_batch.specs.declared.format.Format.TheVariants as formats
use Rattle.streetmap_batch.specs.declared.format.Operation.{Operation}
use Rattle.streetmap_batch.specs.declared.format.Operation.TheVariants as operations

-- one step after another: the first fault is the result
infixl 10 ◌>>=◌
abbrev pub ◌>>=◌ : {A B : Type 0} → Result A BatchFault → (A → Result B BatchFault)
    → Result B BatchFault
(Ok x) >>= f = f x
(Err e) >>= f = Err e

abbrev pub most_edits : ℕ
most_edits = 10000

-- passes, or is that fault
abbrev pub unless : Bool → BatchFault → Result Bool BatchFault
unless b fault = if b then Ok true else Err fault

-- the batch of a key and edits: the key is judged first, then the number of edits
abbrev pub batch_from : Text → List EditValue → Result BatchValue BatchFault
batch_from key edits =
    if is_key key then (if nat_le (length edits) most_edits
    then Ok (record { key = key; edits = edits }) else Err TooManyEdits) else Err BadKey

-- the collection of an edit that is not read from a batch
abbrev pub collection_in : Text → Result Text BatchFault
collection_in collection = ok_or (passing is_collection_id collection) (BadBatch None)

-- the edit of a feature of that collection
abbrev pub edit_in : (Text → FeatureValue → EditValue) → Text → FeatureValue
    → Result EditValue BatchFault
edit_in make collection f = collection_in collection >>= λ c. Ok (make c f)

-- ---- objects

-- the members that an object may have
abbrev pub members_of : Format → List Text
members_of formats.Batch = codes "edits" ∷ codes "key" ∷ []
members_of formats.Open = codes "collection" ∷ codes "op" ∷ codes "time" ∷ codes "title" ∷ []
members_of formats.Feature = codes "collection" ∷ codes "feature" ∷ codes "op" ∷ []
members_of formats.Delete = codes "collection" ∷ codes "id" ∷ codes "op" ∷ []

abbrev pub may_have : Format → Text → Bool
may_have format name = list_any (bytes_eq name) (members_of format)

abbrev pub names_pass : (Text → Bool) → Members → Bool
names_pass test no_members = true
names_pass test (member name d rest) = test name && names_pass test rest

-- an object with no other member than these
unfoldable pub has_only : Format → Data → Bool
has_only format (object ms) = names_pass (may_have format) ms
has_only format _ = false

abbrev pub text_at : Text → Data → Option Text
text_at name d = option_and_then as_str (get name d)

abbrev pub list_of : Items → List Data
list_of no_items = []
list_of (item d ds) = d ∷ list_of ds

abbrev pub array_at : Text → Data → Option (List Data)
array_at name d = option_map list_of (option_and_then as_array (get name d))

-- ---- the shape of an edit

-- what was found, or otherwise the fault that the edit of that place does not have the form of an
-- edit
abbrev pub shaped : {A : Type 0} → ℕ → Option A → Result A BatchFault
shaped place o = ok_or o (BadBatch (Some place))

abbrev pub operation_of : Text → Option Operation
operation_of op =
    if bytes_eq op (codes "open") then Some operations.Open else
    (if bytes_eq op (codes "insert") then Some operations.Insert else
    (if bytes_eq op (codes "replace") then Some operations.Replace else
    (if bytes_eq op (codes "delete") then Some operations.Delete else None)))

abbrev pub operation_at : Data → Option Operation
operation_at d = option_and_then operation_of (text_at (codes "op") d)

abbrev pub collection_at : ℕ → Data → Result Text BatchFault
collection_at place d = shaped place
    (option_and_then (passing is_collection_id) (text_at (codes "collection") d))

-- a missing title is the collection id
abbrev pub title_of : ℕ → Text → Option Data → Result Text BatchFault
title_of place collection None = Ok collection
title_of place collection (Some d) = shaped place (option_and_then (passing is_title) (as_str d))

-- a missing time property is none
abbrev pub time_of : ℕ → Option Data → Result (Option Text) BatchFault
time_of place None = Ok None
time_of place (Some d) = shaped place
    (option_map (λ (t : Text). Some t) (option_and_then (passing is_time_property) (as_str d)))

-- a value that must be read as in a feature
abbrev pub as_shape : ℕ → Result Text Fault → Result Text BatchFault
as_shape place (Ok id) = Ok id
as_shape place (Err fault) = Err (BadBatch (Some place))

abbrev pub as_cause : ℕ → Result FeatureValue Fault → Result FeatureValue BatchFault
as_cause place (Ok f) = Ok f
as_cause place (Err fault) = Err (BadFeature place fault)

-- the feature of an edit, from its member
abbrev pub stated_feature : ℕ → Option Data → Result FeatureValue BatchFault
stated_feature place stated = shaped place stated >>= λ d. as_cause place (feature None d)

-- the id of the feature to delete, from its member: text that is an id, or a whole number, as in a
-- feature
abbrev pub stated_id : ℕ → Option Data → Result Text BatchFault
stated_id place stated = shaped place stated >>= λ d. as_shape place (id_from d)

-- ---- one edit, the one of that place

unfoldable pub open_at : ℕ → Data → Result EditValue BatchFault
open_at place d = do
  only ← unless (has_only formats.Open d) (BadBatch (Some place))
  collection ← collection_at place d
  title ← title_of place collection (get (codes "title") d)
  time ← time_of place (get (codes "time") d)
  Ok (value.«open» collection title time)

-- the shape first, then the feature
unfoldable pub feature_at : ℕ → Data → Result (Text × FeatureValue) BatchFault
feature_at place d = do
  only ← unless (has_only formats.Feature d) (BadBatch (Some place))
  collection ← collection_at place d
  f ← stated_feature place (get (codes "feature") d)
  Ok (collection, f)

abbrev pub insert_at : ℕ → Data → Result EditValue BatchFault
insert_at place d = feature_at place d >>= λ p. Ok (value.insert p.0 p.1)

abbrev pub replace_at : ℕ → Data → Result EditValue BatchFault
replace_at place d = feature_at place d >>= λ p. Ok (value.replace p.0 p.1)

unfoldable pub delete_at : ℕ → Data → Result EditValue BatchFault
delete_at place d = do
  only ← unless (has_only formats.Delete d) (BadBatch (Some place))
  collection ← collection_at place d
  id ← stated_id place (get (codes "id") d)
  Ok (value.delete collection id)

abbrev pub edit_as : Option Operation → ℕ → Data → Result EditValue BatchFault
edit_as None place d = Err (BadBatch (Some place))
edit_as (Some operations.Open) place d = open_at place d
edit_as (Some operations.Insert) place d = insert_at place d
edit_as (Some operations.Replace) place d = replace_at place d
edit_as (Some operations.Delete) place d = delete_at place d

unfoldable pub edit_at : ℕ → Data → Result EditValue BatchFault
edit_at place d = edit_as (operation_at d) place d

-- ---- the whole

abbrev pub and_more : Result EditValue BatchFault → Result (List EditValue) BatchFault
    → Result (List EditValue) BatchFault
and_more (Ok e) (Ok es) = Ok (e ∷ es)
and_more (Ok e) (Err f) = Err f
and_more (Err f) _ = Err f

-- those after the n-th, from left to right
unfoldable pub edits_after : ℕ → List Data → Result (List EditValue) BatchFault
edits_after n [] = Ok []
edits_after n (d ∷ ds) = and_more (edit_at (n + 1) d) (edits_after (n + 1) ds)

-- the key, then the number of edits, then the edits
unfoldable pub keyed : Option Text → List Data → Result BatchValue BatchFault
keyed stated ds = do
  key ← ok_or (option_and_then (passing is_key) stated) BadKey
  few ← unless (nat_le (length ds) most_edits) TooManyEdits
  edits ← edits_after 0 ds
  Ok (record { key = key; edits = edits })

-- the shape of the whole before all else
unfoldable pub batch : Data → Result BatchValue BatchFault
batch d = do
  only ← unless (has_only formats.Batch d) (BadBatch None)
  stated ← ok_or (get (codes "key") d) (BadBatch None)
  ds ← ok_or (array_at (codes "edits") d) (BadBatch None)
  keyed (as_str stated) ds

-- the value of bytes, or otherwise the fault that they are not a batch
abbrev pub as_whole : Result Data Fault → Result Data BatchFault
as_whole (Ok d) = Ok d
as_whole (Err fault) = Err (BadBatch None)

-- of bytes
abbrev pub batch_of : List ℕ → Result BatchValue BatchFault
batch_of bytes = as_whole (json_of bytes) >>= batch
