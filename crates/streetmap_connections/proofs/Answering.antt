-- What the buffers hold after an answer.
use Rattle.std.proofs.Common.{◌≡◌, ℕ, ◌≤◌, [], ◌∷◌, ◌++◌, length, take, drop, refl, Global}
use Rattle.std.proofs.lemmas.List.{length-take-le, map-append}
use Rattle.bytes.specs.declared.unique.BytesMut.{BytesMut}
use Rattle.http_server.specs.declared.log.Log.{Log}
use Rattle.streetmap_connections.specs.declared.buffers.Turn.{Turn}
use Rattle.streetmap_connections.specs.declared.buffers.Buffers.{Buffers}
use Rattle.streetmap_connections.specs.declared.outgoing.Outgoing.{Outgoing}
use Rattle.streetmap_connections.specs.Answers.{answer_text}
use Rattle.streetmap_connections.specs.Buffers.{exchange_of, history_of}
use Rattle.streetmap_connections.specs.History.{after_answer}
use Rattle.streetmap_connections.specs.Outgoings.{unsent_of}

pub history_after : (b : Buffers) (t : Turn) (input : BytesMut Global) (turns : Log (BytesMut Global) Turn) (outgoing : Outgoing)
    → input.items ≡ drop t.len b.input.items → turns.items ≡ b.turns.items ++ (b.input, t) ∷ [] → t.len ≤ length b.input.items → unsent_of outgoing ≡ answer_text t.answer
    → history_of (record b { input = input; needs = 1; outgoing = outgoing; closes = t.closes; turns = turns }) ≡ after_answer (history_of b) (exchange_of b.input.items t)
history_after b t input turns outgoing rest turn fits text = rw (turn, rest, text, length-take-le t.len b.input.items fits, map-append) refl
