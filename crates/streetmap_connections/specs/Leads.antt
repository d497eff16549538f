-- Exchanges that lead a service from state to state.
use Rattle.std.specs.Prelude.{◌≡◌, ℕ, Bool, List, [], ◌∷◌, ◌++◌}
use Rattle.streetmap_connections.specs.History.{Exchange}

-- what a service may answer: from a state, to the bytes of a request, with a text that closes the
-- connection or not, leaving a state
abbrev pub Answering : Type 0 → Type 1
Answering V = V → List ℕ → List ℕ → Bool → V → Type 0

-- the exchanges lead the service from one state to another, in order
abbrev pub Leads : {V : Type 0} → Answering V → V → List Exchange → V → Type 0
Leads answers old [] new = new ≡ old
Leads {V} answers old (e ∷ es) new = (next : V) × answers old e.request e.text e.closes next
    × Leads answers next es new

-- the exchanges between two points lead from one state of the service to the other
abbrev pub Calls : {V : Type 0} → Answering V → V → V → List Exchange → List Exchange → Type 0
Calls answers old new before after = (made : List Exchange) × (after ≡ before ++ made)
    × Leads answers old made new
