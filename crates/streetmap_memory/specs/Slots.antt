-- How the plain keeper keeps a collection: a feature that a batch deletes leaves its slot empty,
-- until the batch is done.
use Rattle.std.specs.Prelude.{Bool, true, false, List, [], ◌∷◌, Option, None, Some, String}
use Rattle.std.specs.Prelude.{string_bytes, map, filter, is_some, if◌then◌else◌, ◌&&◌, refl}
use Rattle.std.specs.Option.{option_and_then}
use Rattle.std.specs.Ordering.{is_ge, is_le}
use Rattle.std.specs.Coded.{Coded, code_by, coded×, coded_ℕ, coded_list, coded_option}
use Rattle.std.specs.FinMap as finmap
use Rattle.std.specs.FinMap.{FinMap, empty, get, insert, remove, entries, from_entries}
use Rattle.std.specs.declared.alloc.Global.{Global}
use Rattle.streetmap_geojson.specs.FeatureValue.{FeatureValue}
use Rattle.streetmap_geojson.specs.Stored.{coded_feature}
use Rattle.streetmap_batch.specs.Text.{Text, text_cmp}
use Rattle.streetmap_ledger.specs.State.{Features, Collection}
use Rattle.streetmap_ledger.specs.Outlines.{FeatureOutlineValue, feature_outline_of}
use Rattle.streetmap_ledger.specs.Summaries.{SummaryValue, summary_of}

-- slots by id, of which each holds a feature or is empty
abbrev pub Slots : Type 0
Slots = FinMap text_cmp (Option FeatureValue)

-- a collection by its slots
pub record SlotCollection : Type 0 where
  pub title : Text
  pub time : Option Text
  pub slots : Slots

-- a text is stored as its bytes
abbrev pub coded_text : Coded Text
coded_text = coded_list coded_ℕ

-- a collection is stored as its title, time property and slots
abbrev pub coded_slot_collection : Coded SlotCollection
coded_slot_collection =
    code_by (Text × (Option Text × Slots))
    (coded× coded_text (coded× (coded_option coded_text)
    (finmap.code coded_text (coded_option coded_feature))))
    (λ c. (c.title, (c.time, c.slots))) (λ p. record { title = p.0; time = p.1.0; slots = p.1.1 })
    (λ _. refl)

-- the entries of a map whose keys are `String`s, by the keys' bytes
abbrev pub by_text : {X : Type 0} → List (String Global × X) → List (Text × X)
by_text es = map (λ e. (string_bytes e.0, e.1)) es

-- a map whose keys are `String`s, by the keys' bytes
abbrev pub map_of : {X : Type 0} → List (String Global × X) → FinMap text_cmp X
map_of es = from_entries (by_text es)

-- collections by id
abbrev pub SlotCollections : Type 0
SlotCollections = FinMap text_cmp SlotCollection

-- with this in the slot at the id, or without the slot if this is empty
abbrev pub filled : Features → Text → Option FeatureValue → Features
filled features id None = remove features id
filled features id (Some f) = insert features id f

-- the features of a list of slots, by id
abbrev pub live_of : List (Text × Option FeatureValue) → Features
live_of [] = empty
live_of (e ∷ es) = filled (live_of es) e.0 e.1

-- with the feature of a slot before them, under its id, if it holds one
abbrev pub with_live : Text → Option FeatureValue → List (Text × FeatureValue)
    → List (Text × FeatureValue)
with_live id None es = es
with_live id (Some f) es = (id, f) ∷ es

-- the features of a list of slots, each under its id, in their order
abbrev pub live_entries : List (Text × Option FeatureValue) → List (Text × FeatureValue)
live_entries [] = []
live_entries (e ∷ es) = with_live e.0 e.1 (live_entries es)

-- whether an entry's id is between two in byte order, or is one of them
abbrev pub is_under : Text → Text → Text × FeatureValue → Bool
is_under first last e = is_ge (text_cmp e.0 first) && is_le (text_cmp e.0 last)

-- the features of entries whose ids are between two, or are one of them, in their order
abbrev pub run_under : Text → Text → List (Text × FeatureValue) → List FeatureValue
run_under first last es = map (λ e. e.1) (filter (is_under first last) es)

-- the features in the slots
abbrev pub live : Slots → Features
live slots = live_of (entries slots)

-- the collection that the slots represent
abbrev pub collected : SlotCollection → Collection
collected c = record { title = c.title; time = c.time; features = live c.slots }

-- the collections of a list, by id
abbrev pub collected_of : List (Text × SlotCollection) → FinMap text_cmp Collection
collected_of [] = empty
collected_of (e ∷ es) = insert (collected_of es) e.0 (collected e.1)

-- the collections that these represent
abbrev pub collections_of : SlotCollections → FinMap text_cmp Collection
collections_of t = collected_of (entries t)

-- what a collection has at an id: no slot, an empty one or a feature
abbrev pub slot_in : SlotCollections → Text → Text → Option (Option FeatureValue)
slot_in t name id = option_and_then (λ (c : SlotCollection). get c.slots id) (get t name)

-- with this in the slot at the id
abbrev pub put_slot : SlotCollection → Text → Option FeatureValue → SlotCollection
put_slot c id slot = record c { slots = insert c.slots id slot }

-- without the slot at the id
abbrev pub cut_slot : SlotCollection → Text → SlotCollection
cut_slot c id = record c { slots = remove c.slots id }

-- with this collection changed, if it exists
abbrev pub changed_collection : SlotCollections → Text → (SlotCollection → SlotCollection)
    → Option SlotCollection → SlotCollections
changed_collection t name f None = t
changed_collection t name f (Some c) = insert t name (f c)

-- with one of the collections changed, if it exists
abbrev pub with_collection : SlotCollections → Text → (SlotCollection → SlotCollection)
    → SlotCollections
with_collection t name f = changed_collection t name f (get t name)

-- with this in a slot of a collection
abbrev pub put_in : SlotCollections → Text → Text → Option FeatureValue → SlotCollections
put_in t name id slot = with_collection t name (λ c. put_slot c id slot)

-- without a slot of a collection
abbrev pub cut_in : SlotCollections → Text → Text → SlotCollections
cut_in t name id = with_collection t name (λ c. cut_slot c id)

-- an existing slot takes this
abbrev pub reset_slot : SlotCollection → Text → Option FeatureValue → SlotCollection
reset_slot c id slot = if is_some (get c.slots id) then put_slot c id slot else c

-- with this in an existing slot of a collection
abbrev pub reset_in : SlotCollections → Text → Text → Option FeatureValue → SlotCollections
reset_in t name id slot = with_collection t name (λ c. reset_slot c id slot)

-- the features of a list of slots
abbrev pub live_values : List (Option FeatureValue) → List FeatureValue
live_values [] = []
live_values (None ∷ os) = live_values os
live_values (Some f ∷ os) = f ∷ live_values os

-- the slot exists and is empty
abbrev pub is_emptied : Option (Option FeatureValue) → Bool
is_emptied (Some None) = true
is_emptied _ = false

-- the slot is removed if it is empty
abbrev pub swept_slot : SlotCollection → Text → SlotCollection
swept_slot c id = if is_emptied (get c.slots id) then cut_slot c id else c

-- without a slot of a collection, if it is empty
abbrev pub swept_in : SlotCollections → Text → Text → SlotCollections
swept_in t name id = with_collection t name (λ c. swept_slot c id)

-- the description of an entry of the map of collections
abbrev pub summary_at : String Global × SlotCollection → SummaryValue
summary_at e = summary_of (string_bytes e.0) (collected e.1)

-- the outline of an entry
abbrev pub outline_at : Text × FeatureValue → FeatureOutlineValue
outline_at e = feature_outline_of e.0 e.1
