-- The history of the buffers of a connection.
use Rattle.std.specs.Prelude.{ℕ, List, take, drop, map, flat_map}
use Rattle.streetmap_connections.specs.declared.buffers.Buffers.{Buffers}
use Rattle.streetmap_connections.specs.declared.buffers.Turn.{Turn}
use Rattle.streetmap_connections.specs.declared.service.Answer.{Answer}
use Rattle.streetmap_connections.specs.Answers.{answer_text}
use Rattle.streetmap_connections.specs.History.{Exchange, History, Refusal}
use Rattle.streetmap_connections.specs.Outgoings.{unsent_of}

abbrev pub exchange_of : List ℕ → Turn → Exchange
exchange_of input t = record {
  request = take t.len input;
  text = answer_text t.answer;
  closes
      = t.closes;
}

abbrev pub refusal_of : List ℕ → Answer → Refusal
refusal_of input answer = record { bytes = input; text = answer_text answer }

abbrev pub history_of : Buffers → History
history_of b = record {
  received = flat_map (λ r. drop r.1 r.0.items) b.reads.items;
  ended = b.ended;
  unread = b.input.items;
  waited = map (λ r. r.1) b.reads.items;
  exchanges = map (λ t. exchange_of t.0.items t.1) b.turns.items;
  refusals = map (λ r. refusal_of r.0.items r.1) b.refusals.items;
  closes = b.closes;
  sent = flat_map (λ w. take w.1 (unsent_of w.0)) b.writes.items;
  unsent = unsent_of b.outgoing;
}
