-- Sources of edits.
use Rattle.std.specs.Prelude.{◌≡◌, ◌≤◌, ℕ, List, [], ◌∷◌, ◌++◌, Option, None, Some, IfSome, Result}
use Rattle.std.specs.Prelude.{Ok, Err}
use Rattle.streetmap_batch.specs.BatchView.{edit_value}
use Rattle.streetmap_loading.specs.Places.{PlacedValue}
use Rattle.streetmap_loading.specs.declared.text_fault.TextFault.{TextFault}
use Rattle.streetmap_loading.specs.declared.source.PlacedEdit.{PlacedEdit}
use Rattle.streetmap_loading.specs.declared.load_fault.LoadFault.{LoadFault}
use Rattle.streetmap_loading.specs.declared.load_fault.LoadFault.TheVariants.{AtFault, ReadFailed}
use Rattle.streetmap_loading.specs.declared.load_fault.LoadFault.TheVariants.{Memory}

-- an edit with its place, or its fault
abbrev pub Item : Type 0
Item = Result PlacedValue TextFault

abbrev pub placed_value : PlacedEdit → PlacedValue
placed_value p = record { place = p.place; edit = edit_value p.edit }

-- the rest of items that are known is known, and these were taken
abbrev pub TakesOff : Option (List Item) → Option (List Item) → List Item → Type 0
TakesOff None new taken = Unit {0}
TakesOff (Some items) None taken = ⊥
TakesOff (Some items) (Some rest) taken = items ≡ taken ++ rest

-- no item is left of items that were known
abbrev pub HasNoItem : Option (List Item) → Option (List Item) → Type 0
HasNoItem None new = Unit {0}
HasNoItem (Some items) None = Unit {0}
HasNoItem (Some items) (Some rest) = rest ≡ []

-- items that are known begin with this fault
abbrev pub FirstIs : Option (List Item) → TextFault → Type 0
FirstIs None fault = Unit {0}
FirstIs (Some items) fault = (rest : List Item) × (items ≡ Err fault ∷ rest)

-- the next edit, the fault in its place, or the end
abbrev pub SourceGives : Option (List Item) → Option (List Item)
    → Result (Option PlacedEdit) LoadFault → Type 0
SourceGives old new (Ok (Some placed)) = TakesOff old new (Ok (placed_value placed) ∷ [])
SourceGives old new (Ok None) = TakesOff old new [] × HasNoItem old new
SourceGives old new (Err (AtFault fault)) = FirstIs old fault
SourceGives old new (Err ReadFailed) = Unit {0}
SourceGives old new (Err Memory) = Unit {0}
SourceGives old new (Err _) = ⊥

-- a number that is known stays
abbrev pub StaysKnown : Option ℕ → Option ℕ → Type 0
StaysKnown None new = Unit {0}
StaysKnown (Some n) new = new ≡ Some n

-- this is the number that is known, if one is; or at most that number
abbrev pub AreAll : Option ℕ → ℕ → Type 0
AreAll all n = IfSome all (λ m. n ≡ m)

abbrev pub AreWithin : Option ℕ → ℕ → Type 0
AreWithin all n = IfSome all (λ m. n ≤ m)

-- the number skipped in all stays known; at the end and at a fault it is the number skipped so far
abbrev pub SourceSkips : Option ℕ → Option ℕ → ℕ → Result (Option PlacedEdit) LoadFault → Type 0
SourceSkips old new skipped (Ok (Some placed)) = StaysKnown old new
SourceSkips old new skipped (Ok None) = AreAll old skipped
SourceSkips old new skipped (Err (AtFault fault)) = AreAll old skipped
SourceSkips old new skipped (Err ReadFailed) = AreWithin old skipped
SourceSkips old new skipped (Err Memory) = AreWithin old skipped
SourceSkips old new skipped (Err _) = ⊥
