-- The places of the members of an object, filled one after the other.
use Rattle.std.specs.Prelude.{◌≡◌, ◌<◌, ℕ, List, Option, None, Some, length}
use Rattle.json.specs.Token.{Token}
use Rattle.json.specs.Json.{value, members}
use Rattle.serde_json.specs.Data.{Data, Members, member, put}
use Rattle.serde_json.specs.Read.{of_members, converted}
use Rattle.streetmap_json.specs.Values.{value_at}

-- a member of this name, if it was found, before others
abbrev pub found : List ℕ → Option Data → Members → Members
found name None more = more
found name (Some d) more = member name d more

-- the next value, nested no deeper than this, is read, and put among the members under this name
abbrev pub Takes : (depth : ℕ) (name : List ℕ) → (old new : Members)
    → (before following : List Token) → Type 0
Takes depth name old new before following =
    (d : Data) × (value_at depth before ≡ Some (d, following)) × (new ≡ put name d old)
    × (length following < length before)

-- with a member, if it was found
abbrev pub with_found : List ℕ → Option Data → Members → Members
with_found name None ms = ms
with_found name (Some d) ms = put name d ms

-- the members up to the closing brace, after others, and the tokens after it, read in n steps
abbrev pub members_after : Members → (depth n : ℕ) → List Token → Option (Members × List Token)
members_after before depth n ts = converted (λ ms. of_members ms before)
    (members (value depth) n ts)
