-- Requests that a service refused.
use Rattle.std.specs.Prelude.{◌≡◌, ℕ, List, ◌++◌, All}
use Rattle.streetmap_connections.specs.History.{Refusal}

-- what a service refuses: a text for the received bytes of a request
abbrev pub Refusing : Type 1
Refusing = List ℕ → List ℕ → Type 0

-- each was refused by such a text
abbrev pub AreRefused : Refusing → List Refusal → Type 0
AreRefused refuses refusals = All (λ r. refuses r.bytes r.text) refusals

-- those that were added between two points were refused in this way
abbrev pub AddsRefusals : Refusing → List Refusal → List Refusal → Type 0
AddsRefusals refuses before after = (more : List Refusal) × (after ≡ before ++ more)
    × AreRefused refuses more
