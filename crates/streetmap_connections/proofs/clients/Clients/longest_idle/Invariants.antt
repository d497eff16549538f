use Rattle.std.proofs.Common.{◌≡◌, ◌≤◌, ℕ, Some, slice_get, IfSome, IfNone}
use Rattle.std.specs.List.{AllWithin}
use Rattle.streetmap_connections.specs.declared.slot.Slot.{Slot}
use Rattle.streetmap_connections.specs.Slots.{GivesWayAt, IdlesFor}
use Rattle.streetmap_connections.proofs.clients.Clients.longest_idle.Given as goal

abbrev pub invariant-loop-place : goal.invariant-loop-place
invariant-loop-place g l = record {
  gives_way : IfSome l.found (λ place. GivesWayAt l.slots place);
  idle : IfSome l.found (λ place. (s : Slot g.row.S.Denot) × (slice_get l.slots place ≡ Some s) × IdlesFor l.fn.now s l.longest);
  none : IfNone l.found (l.longest ≡ l.fn.self.limits.least_idle);
  most : AllWithin (λ s. (m : ℕ) → IdlesFor l.fn.now s m → m ≤ l.longest) l.slots 0 l.place;
}
