-- What is read and written of the place of a journal.
use Rattle.std.specs.Prelude.{◌≡◌, ℕ, List, [], Option, None, Some, IfSome, take}
use Rattle.std.specs.Io.KnownBytes.{Keeps}

-- it reads these bytes; if no reader exists, they are empty
abbrev pub IsReaderOf : {R : Type 0} → (R → Option (List ℕ)) → Option (List ℕ) → Option R → Type 0
IsReaderOf remaining contents None = IfSome contents (λ bytes. bytes ≡ [])
IsReaderOf remaining contents (Some reader) = Keeps contents (remaining reader)

-- it has only the first bytes, this number of them
abbrev pub HasFirst : (old new : Option (List ℕ)) → (count : ℕ) → Type 0
HasFirst old new count = IfSome old (λ bytes. new ≡ Some (take count bytes))
