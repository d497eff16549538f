-- The result of a load of a text.
use Rattle.std.specs.Prelude.{ℕ, List, Option, Result}
use Rattle.streetmap_batch.specs.Text.{Text}
use Rattle.streetmap_batch.specs.BatchValue.{BatchValue}
use Rattle.streetmap_loading.specs.Sources.{Item}
use Rattle.streetmap_loading.specs.Loads.{Loads}
use Rattle.streetmap_loading.specs.Options.{LoadValue, load_items}
use Rattle.streetmap_loading.specs.declared.load_fault.LoadFault.{LoadFault}
use Rattle.streetmap_loading.specs.declared.loaded.Loaded.{Loaded}

-- edits of these items were read, and their batches sent from the first sink to the last, up to the
-- end; some items are left
abbrev pub SendsItems : {S : Type 0} → (S → BatchValue → Result (Option ℕ) LoadFault → S → Type 0) →
    (each : ℕ) (key : Text) → (first last : S) → Option (List Item) → Loaded → Type 0
SendsItems takes each key first last items loaded = (left : Option (List Item)) × Loads takes each
    key first last items left loaded

-- the same for the items of a text, after the opening
abbrev pub SendsText : {S : Type 0} → (S → BatchValue → Result (Option ℕ) LoadFault → S → Type 0) →
    LoadValue → (first last : S) → Option Text → Loaded → Type 0
SendsText takes l first last text loaded = SendsItems takes l.each l.key first last
    (load_items l text) loaded
