use Rattle.std.proofs.Common.{ℕ, ◌-◌, refl, ap, ◌∙◌}
use Rattle.streetmap_connections.proofs.slot.Slot.idle_for.Goals as goal

pub returns-in-Some-clause-idle : goal.returns-in-Some-clause-idle
returns-in-Some-clause-idle g c = λ more. (c.in-Some.client, c.in-Some.is, (rw c.if-is_idle.true at c.is_idle.ensures).0 refl, c.saturating_sub.ensures ∙ ap (λ (since : ℕ). c.args.now - since) c.since.ensures)
