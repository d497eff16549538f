-- When serving ends.
use Rattle.std.specs.Prelude.{◌≡◌, ◌⊎◌, ◌<◌, ◌-◌, ℕ, All, Option, Some}
use Rattle.streetmap_connections.specs.declared.clients.Clients.{Clients}
use Rattle.streetmap_connections.specs.Slots.{AreQuiet}

-- no client waits for the rest of an answer; or it was over for longer than the clients' patience
abbrev pub IsDrained : {S : Type 0} → (now : ℕ) → (since : Option ℕ) → Clients S → Type 0
IsDrained now since clients =
    All AreQuiet clients.slots.items
    ⊎ ((then : ℕ) × (since ≡ Some then) × (clients.limits.patience < now - then))
