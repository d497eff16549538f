-- The result of reading a text without loading it.
use Rattle.std.specs.Prelude.{◌≡◌, List, Option, None, Some, length}
use Rattle.streetmap_batch.specs.Text.{Text}
use Rattle.streetmap_loading.specs.Places.{PlacedValue}
use Rattle.streetmap_loading.specs.KeeperLoads.{AreRead}
use Rattle.streetmap_loading.specs.Options.{LoadValue, load_items}
use Rattle.streetmap_loading.specs.declared.loaded.Loaded.{Loaded}
use Rattle.streetmap_loading.specs.declared.load_fault.LoadFault.{LoadFault}
use Rattle.streetmap_loading.specs.declared.load_fault.LoadFault.TheVariants.{AtFault, ReadFailed}
use Rattle.streetmap_loading.specs.declared.load_fault.LoadFault.TheVariants.{Memory}

-- it began, and did not end at a batch
abbrev pub IsOfText : Option LoadFault → Type 0
IsOfText None = Unit {0}
IsOfText (Some (AtFault fault)) = Unit {0}
IsOfText (Some ReadFailed) = Unit {0}
IsOfText (Some Memory) = Unit {0}
IsOfText _ = ⊥

-- this number of edits was read of the items of the text: all, or those before the fault
pub record ChecksText (l : LoadValue) (text : Option Text) (loaded : Loaded) : Type 0 where
  pub read : List PlacedValue
  pub counted : length read ≡ loaded.edits
  pub is : AreRead (load_items l text) read loaded.fault
  pub of_text : IsOfText loaded.fault
