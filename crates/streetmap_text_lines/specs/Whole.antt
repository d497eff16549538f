-- The effect of taking a whole line from a reader on the bytes that it has left.
use Rattle.std.specs.Prelude.{◌≡◌, ◌≤◌, ◌<◌, length, ℕ, List, [], ◌∷◌, ◌++◌, Option}
use Rattle.std.specs.Io.KnownBytes.{Consumes, Keeps, IsAtEnd}
use Rattle.streetmap_text_lines.specs.LineReads.{HasNoLineFeed, WhereKnown}
use Rattle.streetmap_text_lines.specs.declared.whole.WholeLine.{WholeLine}
use Rattle.streetmap_text_lines.specs.declared.whole.WholeLine.TheVariants.{Line, Cut, End}

-- the input is within one line, which has at least one byte, and nothing is left of it
pub record EndsWithin (input rest : List ℕ) : Type 0 where
  pub unended : HasNoLineFeed input
  pub some : 0 < length input
  pub all : rest ≡ []

-- a line of at most `most` bytes was taken, with its line feed; or the input ended within a line;
-- or it was at its end
abbrev pub TakesWhole : (most : ℕ) → Option (List ℕ) → Option (List ℕ) → WholeLine → Type 0
TakesWhole most old new (Line line) =
    Consumes old new (line.items ++ 10 ∷ []) × HasNoLineFeed line.items
    × (length line.items ≤ most)
TakesWhole most old new Cut = WhereKnown old new EndsWithin
TakesWhole most old new End = Keeps old new × IsAtEnd old
