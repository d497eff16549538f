-- The result of a load.
use Rattle.std.specs.Prelude.{◌≡◌, ◌≤◌, ℕ, List, [], ◌∷◌, ◌++◌, length, Option, None, Some, Result}
use Rattle.std.specs.Prelude.{Ok, Err, IfSome}
use Rattle.streetmap_batch.specs.Text.{Text}
use Rattle.streetmap_batch.specs.BatchValue.{BatchValue}
use Rattle.streetmap_loading.specs.Places.{PlacedValue}
use Rattle.streetmap_loading.specs.Sources.{Item, TakesOff, HasNoItem}
use Rattle.streetmap_loading.specs.Ends.{EndsBy}
use Rattle.streetmap_loading.specs.declared.loaded.Loaded.{Loaded}
use Rattle.streetmap_loading.specs.declared.load_fault.LoadFault.{LoadFault}
use Rattle.streetmap_loading.specs.declared.load_fault.LoadFault.TheVariants.{AtFault, ReadFailed}
use Rattle.streetmap_loading.specs.declared.load_fault.LoadFault.TheVariants.{Memory}

-- edits as items
abbrev pub items_of : List PlacedValue → List Item
items_of [] = []
items_of (p ∷ ps) = Ok p ∷ items_of ps

-- items that are known begin with these
abbrev pub ItemsBeginWith : Option (List Item) → List Item → Type 0
ItemsBeginWith None read = Unit {0}
ItemsBeginWith (Some items) read = (rest : List Item) × (items ≡ read ++ rest)

-- the edits are those that were taken from the source: all of it; those before the item at fault;
-- or its first
abbrev pub AreTakenOff : Option (List Item) → Option (List Item) → List PlacedValue
    → Option LoadFault → Type 0
AreTakenOff old new read None = TakesOff old new (items_of read) × HasNoItem old new
AreTakenOff old new read (Some (AtFault fault)) =
    ItemsBeginWith old (items_of read ++ Err fault ∷ [])
AreTakenOff old new read (Some ReadFailed) = ItemsBeginWith old (items_of read)
AreTakenOff old new read (Some Memory) = ItemsBeginWith old (items_of read)
AreTakenOff old new read why = TakesOff old new (items_of read)

-- these edits were read, and their batches were sent from the first sink to the last, up to the end
pub record Loads {S : Type 0} (takes : S → BatchValue → Result (Option ℕ) LoadFault → S → Type 0)
    (each : ℕ) (key : Text) (first last : S) (old new : Option (List Item)) (loaded : Loaded) :
    Type
    0 where
  pub read : List PlacedValue
  pub counted : length read ≡ loaded.edits
  pub are : AreTakenOff old new read loaded.fault
  pub ends :
      EndsBy takes each key first last read loaded.batches loaded.taken loaded.serial loaded.fault

-- this many features were skipped: all that are to be, at the end and at a fault of the text
abbrev pub SkippedAt : ℕ → ℕ → Option LoadFault → Type 0
SkippedAt all skipped None = skipped ≡ all
SkippedAt all skipped (Some (AtFault fault)) = skipped ≡ all
SkippedAt all skipped why = skipped ≤ all

-- if it is known how many are to be
abbrev pub Skips : Option ℕ → Loaded → Type 0
Skips all loaded = IfSome all (λ n. SkippedAt n loaded.skipped loaded.fault)
