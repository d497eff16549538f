-- The steps of reading edits from a text.
use Rattle.std.specs.Prelude.{◌≡◌, ℕ, ◌<◌, List, [], ◌∷◌, ◌++◌, length, Option, None, Some}
use Rattle.std.specs.Prelude.{option_map, Result, Ok, Err, string_bytes}
use Rattle.serde_json.specs.Written.{compact_text}
use Rattle.streetmap_batch.specs.BatchText.{edit_data}
use Rattle.streetmap_batch.specs.BatchValue.{EditValue}
use Rattle.streetmap_batch.specs.Text.{Text}
use Rattle.streetmap_loading.specs.Sources.{Item, TakesOff, HasNoItem, FirstIs, placed_value}
use Rattle.streetmap_loading.specs.Sources.{StaysKnown, AreAll, AreWithin}
use Rattle.streetmap_loading.specs.Texts.{Rules}
use Rattle.streetmap_loading.specs.declared.source.PlacedEdit.{PlacedEdit}
use Rattle.streetmap_loading.specs.declared.load_fault.LoadFault.{LoadFault}
use Rattle.streetmap_loading.specs.declared.load_fault.LoadFault.TheVariants.{AtFault, ReadFailed}
use Rattle.streetmap_loading.specs.declared.load_fault.LoadFault.TheVariants.{Memory}
use Rattle.streetmap_loading.specs.declared.rules.FeatureRules.{FeatureRules}
use Rattle.streetmap_loading.specs.declared.rules.HeldTimes.{HeldTimes}
use Rattle.streetmap_loading.specs.declared.text_edits.Step.{Step}
use Rattle.streetmap_loading.specs.declared.text_edits.Step.TheVariants as step

abbrev pub property_of : HeldTimes → Option Text
property_of times = option_map string_bytes times.property

abbrev pub rules_value : FeatureRules → Rules
rules_value r = record {
  collection = string_bytes r.collection;
  replace = r.replace;
  numbers = r.numbers;
  skip = option_map property_of r.skip;
}

-- what was read is the item, unless memory ran out
abbrev pub IsItem : Item → Result PlacedEdit LoadFault → Type 0
IsItem item (Ok placed) = item ≡ Ok (placed_value placed)
IsItem item (Err (AtFault fault)) = item ≡ Err fault
IsItem item (Err Memory) = Unit {0}
IsItem item (Err _) = ⊥

-- the edit with its place, or its text is too long
abbrev pub Measures : Option ℕ → EditValue → Option PlacedEdit → Type 0
Measures place e None = 8388480 < length (compact_text (edit_data e))
Measures place e (Some placed) = placed_value placed ≡ record { place = place; edit = e }

-- a line was read: an edit was taken, or nothing that is reported, or the text ended
abbrev pub Steps : Option (List Item) → Option (List Item) → Result Step LoadFault → Type 0
Steps old new (Ok step.Past) = TakesOff old new []
Steps old new (Ok (step.Edit placed)) = TakesOff old new (Ok (placed_value placed) ∷ [])
Steps old new (Ok step.End) = TakesOff old new [] × HasNoItem old new
Steps old new (Err (AtFault fault)) = FirstIs old fault
Steps old new (Err ReadFailed) = Unit {0}
Steps old new (Err Memory) = Unit {0}
Steps old new (Err _) = ⊥

-- and as many features are skipped in all
abbrev pub StepSkips : Option ℕ → Option ℕ → ℕ → Result Step LoadFault → Type 0
StepSkips old new skipped (Ok step.Past) = StaysKnown old new
StepSkips old new skipped (Ok (step.Edit placed)) = StaysKnown old new
StepSkips old new skipped (Ok step.End) = AreAll old skipped
StepSkips old new skipped (Err (AtFault fault)) = AreAll old skipped
StepSkips old new skipped (Err ReadFailed) = AreWithin old skipped
StepSkips old new skipped (Err Memory) = AreWithin old skipped
StepSkips old new skipped (Err _) = ⊥

-- the opening comes first
abbrev pub opening_item : Option PlacedEdit → List Item
opening_item None = []
opening_item (Some opening) = Ok (placed_value opening) ∷ []

abbrev pub and_left : Option PlacedEdit → Option (List Item) → Option (List Item)
and_left opening items = option_map (λ is. opening_item opening ++ is) items
