-- The lines of accepted batches.
use Rattle.std.specs.Prelude.{ℕ, List, [], ◌∷◌, ◌++◌, decimal}
use Rattle.std.specs.List.{flat_map}
use Rattle.std.specs.Str.Lossy.{utf8_lossy}
use Rattle.streetmap_ledger.specs.Kept.{KeyedBatch}

-- A batch as a line: its serial in decimal, a tab, its text and a line feed. The text of a batch is
-- UTF-8; in a text that no batch made, bytes that are not UTF-8 are read as U+FFFD.
abbrev pub change_line : KeyedBatch → List ℕ
change_line b = decimal b.1.serial ++ 9 ∷ (utf8_lossy b.1.text ++ 10 ∷ [])

-- a line each, in this order
unfoldable pub changes_text : List KeyedBatch → List ℕ
changes_text bs = flat_map change_line bs
