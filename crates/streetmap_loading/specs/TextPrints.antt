-- The result of printing the batches of a text.
use Rattle.std.specs.Prelude.{◌≡◌, ℕ, ◌+◌, List, [], ◌∷◌, ◌++◌, Option, None, Some, length}
use Rattle.std.specs.Io.KnownBytes.{Appends}
use Rattle.streetmap_batch.specs.Text.{Text}
use Rattle.streetmap_batch.specs.BatchValue.{BatchValue}
use Rattle.streetmap_packing.specs.Packs.{Packs}
use Rattle.streetmap_text_lines.specs.Written.{AppendsBeginning}
use Rattle.streetmap_loading.specs.Places.{PlacedValue, edits_of}
use Rattle.streetmap_loading.specs.Ends.{AreLeft, IsNext}
use Rattle.streetmap_loading.specs.KeeperLoads.{AreRead}
use Rattle.streetmap_loading.specs.Options.{LoadValue, load_items}
use Rattle.streetmap_loading.specs.Prints.{line_of}
use Rattle.streetmap_loading.specs.declared.loaded.Loaded.{Loaded}
use Rattle.streetmap_loading.specs.declared.load_fault.LoadFault.{LoadFault}
use Rattle.streetmap_loading.specs.declared.load_fault.LoadFault.TheVariants.{AtFault, ReadFailed}
use Rattle.streetmap_loading.specs.declared.load_fault.LoadFault.TheVariants.{Memory}
use Rattle.streetmap_loading.specs.declared.load_fault.LoadFault.TheVariants.{Stopped, WriteFailed}

-- the lines of batches
abbrev pub lines_of : List BatchValue → List ℕ
lines_of [] = []
lines_of (b ∷ bs) = line_of b ++ lines_of bs

-- the lines of the batches that are complete were written, and nothing of the edits that remain
pub record PrintsBefore (each : ℕ) (key : Text) (read : List PlacedValue) (sent : List BatchValue)
    (old new : Option (List ℕ)) : Type 0 where
  pub rest : List PlacedValue
  pub are_left : AreLeft each key read sent rest
  pub written : Appends old new (lines_of sent)

-- and a prefix of the line of the next
pub record PrintsInto (each : ℕ) (key : Text) (read : List PlacedValue) (sent : List BatchValue)
    (old new : Option (List ℕ)) : Type 0 where
  pub rest : List PlacedValue
  pub are_left : AreLeft each key read sent rest
  pub batch : BatchValue
  pub next : IsNext key (1 + length sent) (edits_of rest) batch
  pub written : AppendsBeginning old new (lines_of sent ++ line_of batch)

abbrev pub PrintsBy :
    (each : ℕ) (key : Text) (read : List PlacedValue) (sent : List BatchValue)
    (old new : Option (List ℕ)) →
    Option LoadFault → Type 0
PrintsBy each key read sent old new None = Packs each key (edits_of read) sent × Appends old new
    (lines_of sent)
PrintsBy each key read sent old new (Some (AtFault fault)) = PrintsBefore each key read sent old new
PrintsBy each key read sent old new (Some ReadFailed) = PrintsBefore each key read sent old new
PrintsBy each key read sent old new (Some Memory) = PrintsBefore each key read sent old new
PrintsBy each key read sent old new (Some (Stopped fault)) = PrintsInto each key read sent old new
PrintsBy each key read sent old new (Some WriteFailed) = PrintsInto each key read sent old new
PrintsBy each key read sent old new (Some _) = ⊥

-- these edits of the items of the text were read, and the lines of their batches written, up to the
-- end
pub record PrintsText (l : LoadValue) (text old new : Option (List ℕ)) (loaded : Loaded) : Type 0
  where
    pub read : List PlacedValue
    pub counted : length read ≡ loaded.edits
    pub is : AreRead (load_items l text) read loaded.fault
    pub sent : List BatchValue
    pub batches : length sent ≡ loaded.batches
    pub prints : PrintsBy l.each l.key read sent old new loaded.fault
