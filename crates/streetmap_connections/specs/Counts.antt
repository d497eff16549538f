-- Counts of lists that grow, up to the most that a count holds.
use Rattle.std.specs.Prelude.{◌≡◌, ℕ, ◌+◌, ◌-◌, ◌^◌, List, length, min}

-- the length of the list, up to the most
abbrev pub count_of : {A : Type 0} → List A → ℕ
count_of xs = min (length xs) (2 ^ 64 - 1)

-- the list has grown, and its count by as many, up to the most
abbrev pub CountsOn : {A : Type 0} → ℕ → ℕ → List A → List A → Type 0
CountsOn old new before after = (more : ℕ) × (length after ≡ length before + more)
    × (min new (2 ^ 64 - 1) ≡ min (old + more) (2 ^ 64 - 1))
