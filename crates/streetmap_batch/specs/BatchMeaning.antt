-- "A value is the batch": by cases, with no order of steps.
use Rattle.std.specs.Prelude.{◌≡◌, ◌≤◌, ℕ, List, [], ◌∷◌, length, codes, Option, None, Some, Ok}
use Rattle.std.specs.Prelude.{IsTrue}
use Rattle.serde_json.specs.Data.{Data, string}
use Rattle.serde_json.specs.Find.{get}
use Rattle.streetmap_geojson.specs.FeatureMeaning.{IsId, ReadsAs}
use Rattle.streetmap_geojson.specs.JsonText.{json_of}
use Rattle.streetmap_batch.specs.Text.{Text}
use Rattle.streetmap_batch.specs.Names.{is_key, is_collection_id, is_title, is_time_property}
use Rattle.streetmap_batch.specs.BatchValue as value
use Rattle.streetmap_batch.specs.BatchValue.{EditValue, BatchValue}
use Rattle.streetmap_batch.specs.ParsedBatches.{has_only, array_at, most_edits}
use Rattle.streetmap_batch.specs.declared.format.Format.{Format}
use Rattle.streetmap_batch.specs.declared.format.Format.TheVariants as formats

-- the member of that name is that text
abbrev pub HasText : Text → Text → Data → Type 0
HasText name text d = get name d ≡ Some (string text)

-- an edit of a collection: an object with no other member than these, by its `op`
pub record IsEditOf (format : Format) (op collection : Text) (d : Data) : Type 0 where
  pub only : IsTrue (has_only format d)
  pub op_is : HasText (codes "op") op d
  pub collection_is : HasText (codes "collection") collection d
  pub named : IsTrue (is_collection_id collection)

-- the title, which is the collection id if it is missing
abbrev pub IsTitleOf : Option Data → Text → Text → Type 0
IsTitleOf None collection title = title ≡ collection
IsTitleOf (Some d) collection title = (d ≡ string title) × IsTrue (is_title title)

-- the time property, if any
abbrev pub IsTimeMember : Option Data → Option Text → Type 0
IsTimeMember None time = time ≡ None
IsTimeMember (Some d) time = (t : Text) × (d ≡ string t) × IsTrue (is_time_property t)
    × (time ≡ Some t)

-- the member of that name represents it
abbrev pub HasMember : {A : Type 0} → Text → (Data → A → Type 0) → Data → A → Type 0
HasMember name R d a = (stated : Data) × (get name d ≡ Some stated) × R stated a

-- a feature is read without a time property: its time is set when the edit acts
abbrev pub IsEdit : Data → EditValue → Type 0
IsEdit d (value.«open» collection title time) =
    IsEditOf formats.Open (codes "open") collection d
    × IsTitleOf (get (codes "title") d) collection title × IsTimeMember (get (codes "time") d) time
IsEdit d (value.insert collection f) = IsEditOf formats.Feature (codes "insert") collection d
    × HasMember (codes "feature") (ReadsAs None) d f
IsEdit d (value.replace collection f) = IsEditOf formats.Feature (codes "replace") collection d
    × HasMember (codes "feature") (ReadsAs None) d f
IsEdit d (value.delete collection id) = IsEditOf formats.Delete (codes "delete") collection d
    × HasMember (codes "id") IsId d id

-- one by one
abbrev pub AreEdits : List Data → List EditValue → Type 0
AreEdits [] [] = Unit {0}
AreEdits (d ∷ ds) (e ∷ es) = IsEdit d e × AreEdits ds es
AreEdits _ _ = ⊥

-- an object with exactly the members `key` and `edits`
pub record IsBatch (d : Data) (b : BatchValue) : Type 0 where
  pub only : IsTrue (has_only formats.Batch d)
  pub key_is : HasText (codes "key") b.key d
  pub named : IsTrue (is_key b.key)
  pub edits_are : (ds : List Data) × (array_at (codes "edits") d ≡ Some ds) × AreEdits ds b.edits
  pub few : length b.edits ≤ most_edits

-- the bytes are JSON of the batch
abbrev pub IsBatchText : List ℕ → BatchValue → Type 0
IsBatchText bytes b = (d : Data) × (json_of bytes ≡ Ok d) × IsBatch d b
