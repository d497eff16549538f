-- The effect of taking lines from a reader on the bytes that it has left.
use Rattle.std.specs.Prelude.{◌≡◌, ◌≤◌, length, ℕ, ◌+◌, List, [], ◌∷◌, ◌++◌, Option, None, Some}
use Rattle.std.specs.Prelude.{option_map, All, false, ◌==◌, ⊤}
use Rattle.std.specs.Str.Lines.{lines}
use Rattle.std.specs.Io.KnownBytes.{Keeps, IsAtEnd, prepend_known}
use Rattle.streetmap_text_lines.specs.Lines.{first_too_long}
use Rattle.streetmap_text_lines.specs.declared.line.Line.{Line}
use Rattle.streetmap_text_lines.specs.declared.line.Line.TheVariants.{Text, End}
use Rattle.streetmap_text_lines.specs.declared.line.Found.{Found}
use Rattle.streetmap_text_lines.specs.declared.line.Found.TheVariants as found
use Rattle.streetmap_text_lines.specs.declared.line.Shown.{Shown}
use Rattle.streetmap_text_lines.specs.declared.line.Shown.TheVariants as shown

-- bytes within one line
abbrev pub HasNoLineFeed : List ℕ → Type 0
HasNoLineFeed bytes = All (λ b. (b == 10) ≡ false) bytes

-- what a reader showed was appended to the line: the line and what is left are the same bytes as
-- before
abbrev pub TakesShown : Option (List ℕ) → Option (List ℕ) → List ℕ → List ℕ → Shown → Type 0
TakesShown old new line longer shown.More = Keeps (prepend_known line old)
    (prepend_known longer new)
TakesShown old new line longer shown.LineFeed = Keeps (prepend_known line old)
    (prepend_known (longer ++ 10 ∷ []) new)
TakesShown old new line longer shown.End = (longer ≡ line) × Keeps old new × IsAtEnd old

-- the first line of the input, which is not too long, and the rest of the input
pub record IsFirstLine (most : ℕ) (input line rest : List ℕ) : Type 0 where
  pub first : lines input ≡ line ∷ lines rest
  pub short : first_too_long most input ≡ option_map (λ n. 1 + n) (first_too_long most rest)

-- a fact on the bytes before and after, if they are known
abbrev pub WhereKnown : Option (List ℕ) → Option (List ℕ) → (List ℕ → List ℕ → Type 0) → Type 0
WhereKnown None new P = ⊤
WhereKnown (Some xs) None P = ⊥
WhereKnown (Some xs) (Some ys) P = P xs ys

-- the first line was taken from the input, or the input has none
abbrev pub TakesLine : (most : ℕ) → Option (List ℕ) → Option (List ℕ) → Line → Type 0
TakesLine most old new (Text line) = WhereKnown old new
    (λ input rest. IsFirstLine most input line.items rest)
TakesLine most old new End = Keeps old new × IsAtEnd old

-- the first line was taken from the input and is the line that was read, or the input has none
abbrev pub ReadsLine : (most : ℕ) → Option (List ℕ) → Option (List ℕ) → List ℕ → Found → Type 0
ReadsLine most old new line found.Line = WhereKnown old new
    (λ input rest. IsFirstLine most input line rest)
ReadsLine most old new line found.End = (line ≡ []) × Keeps old new × IsAtEnd old

-- a prefix of a line was taken, and is lost
abbrev pub LosesPart : (most : ℕ) → Option (List ℕ) → Option (List ℕ) → Type 0
LosesPart most old new = (part : List ℕ) × Keeps old (prepend_known part new) × HasNoLineFeed part ×
    (length part ≤ most)
