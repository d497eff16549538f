-- The times of a client, and what renews them.
use Rattle.std.specs.Prelude.{◌≡◌, ℕ, ◌+◌, ◌<◌, ◌≤◌, ◌/◌, Bool, length, nat_lt}
use Rattle.std.specs.Prelude.{if◌then◌else◌}
use Rattle.streetmap_connections.specs.declared.client.Client.{Client}
use Rattle.streetmap_connections.specs.declared.limits.TheConstants.{PIECE}
use Rattle.streetmap_connections.specs.Connections.{history}
use Rattle.streetmap_connections.specs.History.{History}

-- the whole pieces of input that wait for an answer
abbrev pub pieces_of : History → ℕ
pieces_of h = length h.unread / PIECE

-- what was done for a client: the requests answered or refused, the bytes sent, and that all was
-- sent
abbrev pub done_of : History → Bool → ℕ
done_of h finishes = length h.exchanges + length h.refusals + length h.sent
    + (if finishes then 1 else 0)

-- the start of a client's patience, and the start of its request; what was done for it, and the
-- whole pieces that were received
pub record Times : Type 0 where
  pub since : ℕ
  pub request_since : ℕ
  pub done : ℕ
  pub pieces : ℕ

abbrev pub times_of : {S : Type 0} → Client S → Times
times_of c = record {
  since = c.since;
  request_since = c.request_since;
  done = done_of (history c.connection)
      c.finishes;
  pieces = pieces_of (history c.connection);
}

-- something was done for it
abbrev pub restarted : {S : Type 0} → ℕ → Client S → Client S
restarted now c = record c { since = now; request_since = now }

-- its patience is renewed if more whole pieces wait than `pieces`
abbrev pub renewed : {S : Type 0} → ℕ → ℕ → Client S → Client S
renewed pieces now c = record c {
  since = if nat_lt pieces (pieces_of (history c.connection)) then now else c.since;
}

-- Both times are now if anything was done for the client. If nothing was, its patience is renewed
-- by each whole piece that was received, and by nothing else; and the start of its request stays.
pub record IsTimedFrom (now : ℕ) (old new : Times) : Type 0 where
  pub more : old.done ≤ new.done
  pub waits : new.done ≡ old.done → old.pieces ≤ new.pieces
  pub done : old.done < new.done → (new.since ≡ now) × (new.request_since ≡ now)
  pub renewed : new.done ≡ old.done → old.pieces < new.pieces → new.since ≡ now
  pub kept : new.done ≡ old.done → new.pieces ≡ old.pieces → new.since ≡ old.since
  pub request : new.done ≡ old.done → new.request_since ≡ old.request_since
