-- Taking edits back.
use Rattle.std.specs.Prelude.{List, [], ◌∷◌, Option, Some, None}
use Rattle.std.specs.Option.{option_flatten, option_and_then}
use Rattle.std.specs.Result.{result_ok}
use Rattle.std.specs.FinMap.{get, remove}
use Rattle.streetmap_geojson.specs.FeatureValue.{FeatureValue}
use Rattle.streetmap_batch.specs.Text.{Text}
use Rattle.streetmap_ledger.specs.State.{timed}
use Rattle.streetmap_memory.specs.Slots.{SlotCollections, SlotCollection, cut_in, reset_in}
use Rattle.streetmap_memory.specs.Slots.{swept_in}
use Rattle.streetmap_memory.specs.declared.edits.Found.{Found}
use Rattle.streetmap_memory.specs.declared.edits.Found.TheVariants.{NoCollection, NoFeature, There}
use Rattle.streetmap_memory.specs.declared.undo.Undo.{Undo}
use Rattle.streetmap_memory.specs.declared.undo.Undo.TheVariants.{Open, Add, Set}

-- one edit taken back
abbrev pub undone : Undo → SlotCollections → SlotCollections
undone (Open name) t = remove t name.now
undone (Add name id) t = cut_in t name.now id.now
undone (Set name id slot) t = reset_in t name.now id.now slot

-- all of them, the last first
abbrev pub rewound : List Undo → SlotCollections → SlotCollections
rewound [] t = t
rewound (u ∷ us) t = undone u (rewound us t)

-- by what the slot at the id holds
abbrev pub found_slot : Option FeatureValue → Found
found_slot None = NoFeature
found_slot (Some f) = There

-- by the collection under the name
abbrev pub found_on : Option SlotCollection → Text → Found
found_on None id = NoCollection
found_on (Some c) id = found_slot (option_flatten (get c.slots id))

-- whether the collection and the feature exist
abbrev pub found_in : SlotCollections → Text → Text → Found
found_in t name id = found_on (get t name) id

-- the feature with its time by the collection's property: none if the time cannot be read
abbrev pub timed_in : SlotCollections → Text → FeatureValue → Option FeatureValue
timed_in t name f = option_and_then (λ (c : SlotCollection). result_ok (timed c.time f))
    (get t name)

-- the slot that an edit wrote is removed if it is empty
abbrev pub swept_by : Undo → SlotCollections → SlotCollections
swept_by (Open name) t = t
swept_by (Add name id) t = swept_in t name.now id.now
swept_by (Set name id slot) t = swept_in t name.now id.now

-- the slots that edits wrote, the last first
abbrev pub all_swept : List Undo → SlotCollections → SlotCollections
all_swept [] t = t
all_swept (u ∷ us) t = swept_by u (all_swept us t)
