-- What comes next in an input, compared with the bytes that are expected.
use Rattle.std.specs.Prelude.{◌≡◌, ◌≤◌, ◌<◌, ℕ, List, [], Option, None, Some, length, take}
use Rattle.std.specs.Prelude.{slice_get, IfSome, Bool, true, false, ◌==◌}
use Rattle.std.specs.List.{list_all}
use Rattle.std.specs.Io.KnownBytes.{Consumes, Keeps, IsAtEnd}
use Rattle.streetmap_journal.specs.declared.front.Seen.{Seen}
use Rattle.streetmap_journal.specs.declared.front.Seen.TheVariants as seen
use Rattle.streetmap_journal.specs.declared.front.Left.{Left}
use Rattle.streetmap_journal.specs.declared.front.Left.TheVariants.{Nothing, Zeros, Other}

-- after n of the bytes expected the input goes on otherwise: by another byte, or it ends
abbrev pub GoesOnOtherwise : Option (List ℕ) → (expected : List ℕ) → ℕ → Type 0
GoesOnOtherwise input expected n =
    IfSome input (λ bytes. slice_get bytes n ≡ slice_get expected n → ⊥)

-- the first n of the expected bytes were taken off: as many of them as the input begins with
abbrev pub TakesFront : (old new : Option (List ℕ)) → (expected : List ℕ) → ℕ → Type 0
TakesFront old new expected n =
    (n ≤ length expected) × Consumes old new (take n expected)
    × (n < length expected → GoesOnOtherwise old expected n)

-- what a reader showed of the bytes expected was taken off, one byte at least; or another byte was
-- next; or the read was interrupted
abbrev pub SeesFront : (old new : Option (List ℕ)) → (expected : List ℕ) → Seen → Type 0
SeesFront old new expected (seen.Same n) =
    (0 < n) × (n ≤ length expected) × Consumes old new (take n expected)
SeesFront old new expected (seen.Other n) =
    (n < length expected) × Consumes old new (take n expected) × GoesOnOtherwise old expected n
SeesFront old new expected seen.Interrupted = Keeps old new

-- all are zero
abbrev pub are_zeros : List ℕ → Bool
are_zeros bytes = list_all (λ b. b == 0) bytes

-- what bytes are
abbrev pub IsLeft : Left → List ℕ → Type 0
IsLeft Nothing bytes = bytes ≡ []
IsLeft Zeros bytes = (0 < length bytes) × (are_zeros bytes ≡ true)
IsLeft Other bytes = are_zeros bytes ≡ false

-- zeros that a reader showed were taken off, or it was at its end, or it showed another byte
abbrev pub SeesZeros : (old new : Option (List ℕ)) → Option Left → Type 0
SeesZeros old new None = Keeps old new
SeesZeros old new (Some Nothing) = IsAtEnd old
SeesZeros old new (Some Zeros) =
    (zeros : List ℕ) × Consumes old new zeros × (0 < length zeros) × (are_zeros zeros ≡ true)
SeesZeros old new (Some Other) = IfSome old (IsLeft Other)
