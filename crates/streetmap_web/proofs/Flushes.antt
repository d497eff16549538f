-- What was flushed after an answer, and through the turns of a stream.
use Rattle.std.proofs.Common.{◌≡◌, ◌≢◌, ℕ, ◌<◌, ◌+◌, Bool, true, false, inl, inr, ◌⊎◌, refl, sym, subst, arith}
use Rattle.std.specs.Prelude.{if◌then◌else◌}
use Rattle.streetmap_http.specs.declared.sender.Sent.{Sent}
use Rattle.streetmap_http.specs.declared.sender.Sent.TheVariants.{Whole, Part}
use Rattle.streetmap_web.specs.Turns.{turn_after, end_of, begun_in, HandsOn, IsHandedOn}
use Rattle.streetmap_web.specs.declared.turns.End.{End}
use Rattle.streetmap_web.specs.declared.turns.Turn.{Turn}
use Rattle.streetmap_web.specs.declared.turns.Turn.TheVariants.{Open, Closed, Ended, Truncated, ReadFailed, WriteFailed, FlushFailed}

-- an answer that was flushed is handed on
pub answer_flushed : (sent : Sent) (flushed closes : Bool) (turn : Turn) (before now : Type 0) → turn ≡ turn_after sent flushed closes
    → (flushed ≡ true → now) → HandsOn turn before now
answer_flushed sent flushed closes turn before now is done = subst (λ t. HandsOn t before now) (sym is) (by sent flushed closes done)
  where
    by : (sent : Sent) (flushed closes : Bool) → (flushed ≡ true → now) → HandsOn (turn_after sent flushed closes) before now
    by Whole true true done = done refl
    by Whole true false done = done refl
    by Whole false closes done = tt
    by (Part begun) flushed closes done = tt

-- before the first answer nothing is known of the writer that was not known before
pub none_flushed : (now : Type 0) → (0 < 0) ⊎ now → now
none_flushed now (inl some) = absurd (let none : 0 < 0 = some in omega (arith, none))
none_flushed now (inr held) = held

-- after a turn that leaves the connection open the writer keeps nothing back
pub open_flushed : (turn : Turn) (mark now : Type 0) → turn ≡ Open → HandsOn turn mark now → now
open_flushed turn mark now is hands = subst (λ t. HandsOn t mark now) is hands

-- the same number of answers
pub same_flushed : (answers count : ℕ) (before now : Type 0) → answers ≡ count → ((0 < answers) ⊎ before → now) → (0 < count) ⊎ before → now
same_flushed answers count before now is held = subst (λ n. (0 < n) ⊎ before → now) is held

-- the turn that ends a stream, after whole answers that were handed on
pub stream_flushed : (turn : Turn) (answers count : ℕ) (end : End) (before mark now : Type 0) → turn ≢ Open → end ≡ end_of turn
    → count ≡ (if begun_in turn then answers + 1 else answers)
    → ((0 < answers) ⊎ before → mark) → HandsOn turn mark now → IsHandedOn end count before now
stream_flushed turn answers count end before mark now closed end_is counted held hands =
    subst (λ e. IsHandedOn e count before now) (sym end_is) (subst (λ n. IsHandedOn (end_of turn) n before now) (sym counted) (by turn closed hands))
  where
    by : (turn : Turn) → turn ≢ Open → HandsOn turn mark now → IsHandedOn (end_of turn) (if begun_in turn then answers + 1 else answers) before now
    by Open closed hands = absurd (closed refl)
    by Closed closed hands = λ some. hands
    by Ended closed hands = λ some. hands (held some)
    by Truncated closed hands = λ some. hands (held some)
    by ReadFailed closed hands = λ some. hands (held some)
    by (WriteFailed begun) closed hands = tt
    by FlushFailed closed hands = tt
