-- What is left of an answer that is sent in pieces.
use Rattle.std.specs.Prelude.{ℕ, List, [], ◌∷◌, ◌++◌, drop}
use Rattle.streetmap_connections.specs.declared.outgoing.Outgoing.{Outgoing}
use Rattle.streetmap_connections.specs.Answers.{head_bytes, body_bytes}

-- the first that has a byte
abbrev pub first_of : List ℕ → List ℕ → List ℕ
first_of [] ys = ys
first_of (x ∷ xs) ys = x ∷ xs

abbrev pub unsent_of : Outgoing → List ℕ
unsent_of o = drop o.head_sent (head_bytes o.answer) ++ drop o.body_sent (body_bytes o.answer)

-- what is sent next: the rest of the head, or otherwise of the body
abbrev pub next_of : Outgoing → List ℕ
next_of o = first_of (drop o.head_sent (head_bytes o.answer))
    (drop o.body_sent (body_bytes o.answer))
