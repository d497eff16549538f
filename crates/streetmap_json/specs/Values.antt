-- Values at the front of a list of tokens. RFC 8259, sections 3 to 5.
use Rattle.std.specs.Prelude.{◌≡◌, ℕ, List, length, Option, Some, option_and_then, Result, Ok, Err}
use Rattle.json.specs.Token.{Token}
use Rattle.json.specs.Json as json
use Rattle.json.specs.Json.{value, items, members, if_last}
use Rattle.serde_json.specs.Data.{Data, Items, Members, no_members}
use Rattle.serde_json.specs.Read.{of_json, of_items, of_members, converted}
use Rattle.streetmap_json.specs.declared.fault.ParseFault.{ParseFault}
use Rattle.streetmap_json.specs.Reads.{Fails}

-- the first value, nested no deeper than this, and the tokens after it
abbrev pub value_at : ℕ → List Token → Option (Data × List Token)
value_at depth ts = converted of_json (value depth ts)

-- after an opening bracket: the elements up to the closing one, and the tokens after it
abbrev pub items_at : ℕ → List Token → Option (Items × List Token)
items_at depth ts = converted of_items (items (value depth) (length ts) ts)

-- after an opening brace: the members up to the closing one, the last of those with the same name,
-- and the tokens after it
abbrev pub members_at : ℕ → List Token → Option (Members × List Token)
members_at depth ts = converted (λ ms. of_members ms no_members)
    (members (value depth) (length ts) ts)

-- the value, if it takes all the tokens
abbrev pub whole : Option (json.Json × List Token) → Option Data
whole front = option_and_then of_json (option_and_then (λ p. if_last p.0 p.1) front)

-- the result, seen by view, is at the front, and these tokens are left, unless memory ran out
abbrev pub Takes : {X Y : Type 0} → (X → Y) → Result X ParseFault → List Token
    → Option (Y × List Token) → Type 0
Takes view (Ok x) left front = front ≡ Some (view x, left)
Takes view (Err fault) left front = Fails fault front
