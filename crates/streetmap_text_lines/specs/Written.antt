-- What is written of bytes.
use Rattle.std.specs.Prelude.{◌≤◌, ◌<◌, ℕ, List, length, take, Option}
use Rattle.std.specs.Io.{StartsWith}
use Rattle.std.specs.Io.KnownBytes.{Appends}

-- the first `written` of these bytes were written, and nothing else
abbrev pub AppendsFirst : ℕ → Option (List ℕ) → Option (List ℕ) → List ℕ → Type 0
AppendsFirst written old new bytes =
    (written ≤ length bytes) × Appends old new (take written bytes)

-- a prefix of these bytes was written, and nothing else
abbrev pub AppendsBeginning : Option (List ℕ) → Option (List ℕ) → List ℕ → Type 0
AppendsBeginning old new bytes = (first : List ℕ) × StartsWith bytes first × Appends old new first

-- the first of these bytes were written, not all of them, and nothing else
abbrev pub AppendsLess : Option (List ℕ) → Option (List ℕ) → List ℕ → Type 0
AppendsLess old new bytes =
    (first : List ℕ) × StartsWith bytes first × (length first < length bytes)
    × Appends old new first
