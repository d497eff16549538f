-- How an answer was sent.
use Rattle.std.specs.Prelude.{◌≡◌, ℕ, ◌<◌, List, length, take, Option, nat_lt}
use Rattle.std.specs.Io.KnownBytes.{Appends}
use Rattle.streetmap_http.specs.declared.sender.Sent.{Sent}
use Rattle.streetmap_http.specs.declared.sender.Sent.TheVariants.{Whole, Part}

-- whole, or a prefix of it, and whether a byte of it was written
abbrev pub SentSays : Sent → List ℕ → Option (List ℕ) → Option (List ℕ) → Type 0
SentSays Whole text a b = Appends a b text
SentSays (Part begun) text a b = (n : ℕ) × (n < length text) × (begun ≡ nat_lt 0 n)
    × Appends a b (take n text)
