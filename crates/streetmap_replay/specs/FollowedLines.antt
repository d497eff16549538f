-- Lines that are followed: each is read as a batch, which acts, up to the first that is not
-- followed.
use Rattle.std.specs.Prelude.{◌≡◌, ◌≤◌, ◌+◌, ◌==◌, ◌||◌, ℕ, max, Bool, false, if◌then◌else◌}
use Rattle.std.specs.Prelude.{List, [], ◌∷◌, length, take, drop, slice_get, All}
use Rattle.std.specs.Prelude.{Option, None, Some, Result, Ok, Err, ◌<◌}
use Rattle.std.specs.FinMap.{get, len}
use Rattle.streetmap_batch.specs.ParsedBatches.{batch_of}
use Rattle.streetmap_batch.specs.BatchValue.{BatchValue}
use Rattle.streetmap_batch.specs.declared.batch_fault.BatchFault.{BatchFault}
use Rattle.streetmap_ledger.specs.State.{State, AcceptedBatch, opening_state}
use Rattle.streetmap_ledger.specs.Batches.{Outcome, act, after_all}
use Rattle.streetmap_ledger.specs.Laws.{accepted_of}
use Rattle.streetmap_ledger.specs.declared.reply.Refusal.{Refusal}
use Rattle.streetmap_ledger.specs.declared.reply.Reply.{Reply}
use Rattle.streetmap_ledger.specs.declared.reply.Reply.TheVariants.{Accepted, Repeated, Refused}
use Rattle.streetmap_batch.specs.BatchFacts.{IsSoundBatch}
use Rattle.streetmap_replay.specs.Journal.{journal}
use Rattle.streetmap_replay.specs.Lines.{Line, bare, numbered}
use Rattle.streetmap_replay.specs.JournalText.{journal_lines}

-- why a line is not followed: it is not a batch; its serial is neither the next one nor that of its
-- key; or its batch is refused, with the place of the edit at fault, if any
pub data LineFault : Type 0 where
  unread : BatchFault → LineFault
  not_next : LineFault
  refused : Refusal → Option ℕ → LineFault

-- it was accepted with this serial
abbrev pub is_under : ℕ → Option AcceptedBatch → Bool
is_under serial None = false
is_under serial (Some kept) = kept.serial == serial

-- the serial is the next one, or a batch with this key was accepted with it
abbrev pub is_next : State → ℕ → BatchValue → Bool
is_next s serial b = (serial == len s.keys + 1) || is_under serial (get s.keys b.key)

-- the outcome of a batch, unless it is refused
abbrev pub unless_refused : State → Reply → Result Outcome LineFault
unless_refused t (Accepted counts serial) =
    Ok (record { reply = Accepted counts serial; state = t })
unless_refused t (Repeated counts serial) =
    Ok (record { reply = Repeated counts serial; state = t })
unless_refused t (Refused why place) = Err (refused why place)

-- the outcome of a batch that was read
abbrev pub acted : State → Result BatchValue BatchFault → Result Outcome LineFault
acted s (Ok b) = unless_refused (act s b).state (act s b).reply
acted s (Err fault) = Err (unread fault)

-- the outcome of a batch that was read with a serial
abbrev pub acted_next : State → ℕ → Result BatchValue BatchFault → Result Outcome LineFault
acted_next s serial (Ok b) = if is_next s serial b then acted s (Ok b) else Err not_next
acted_next s serial (Err fault) = Err (unread fault)

-- the outcome of a line
abbrev pub line_outcome : State → Line → Result Outcome LineFault
line_outcome s (bare text) = acted s (batch_of text)
line_outcome s (numbered serial text) = acted_next s serial (batch_of text)

-- the replies to the lines that were followed, the state after them, and why the next was not
pub record Followed : Type 0 where
  pub replies : List Reply
  pub state : State
  pub fault : Option LineFault

-- after one line
abbrev pub goes_on : State → Result Outcome LineFault → (State → Followed) → Followed
goes_on s (Ok o) next =
    let rest = next o.state in
    record { replies = o.reply ∷ rest.replies; state = rest.state; fault = rest.fault }
goes_on s (Err why) next = record { replies = []; state = s; fault = Some why }

-- lines in order
abbrev pub follow : State → List Line → Followed
follow s [] = record { replies = []; state = s; fault = None }
follow s (line ∷ lines) = goes_on s (line_outcome s line) (λ t. follow t lines)

-- all lines were followed, to this state
pub record Arrives (f : Followed) (t : State) : Type 0 where
  pub there : f.state ≡ t
  pub whole : f.fault ≡ None

-- the state after the first k accepted batches
abbrev pub follower : List BatchValue → ℕ → State
follower bs k = after_all opening_state (take k (accepted_of opening_state bs))

-- the lines of the journal after the first j, up to the m-th
abbrev pub lines_between : List BatchValue → ℕ → ℕ → List Line
lines_between bs j m = drop j (take m (journal_lines (after_all opening_state bs)))

-- a follower of the first k lines that is given those after the j-th, with j at most k, up to the
-- m-th, follows all of them, and is then a follower of the first m, or as it was
abbrev pub FollowersGoOn : Type 0
FollowersGoOn =
    (bs : List BatchValue) (k j m : ℕ) → All IsSoundBatch bs → j ≤ k →
    Arrives (follow (follower bs k) (lines_between bs j m)) (follower bs (max k m))

-- its state is that of a prefix of the batches
abbrev pub FollowersAreBeginnings : Type 0
FollowersAreBeginnings =
    (bs : List BatchValue) (k : ℕ) →
    (n : ℕ) × (n ≤ length bs) × (follower bs k ≡ after_all opening_state (take n bs))

-- and after all lines it is that of all batches
abbrev pub FollowersArrive : Type 0
FollowersArrive =
    (bs : List BatchValue) (k : ℕ) → All IsSoundBatch bs →
    length (journal (after_all opening_state bs)) ≤ k →
    follower bs k ≡ after_all opening_state bs

-- a follower that has the lines before a line of the journal follows it, and it adds nothing if it
-- was followed before; for one that lacks a line before it, it is not the next
abbrev pub LinesComeInOrder : Type 0
LinesComeInOrder =
    (bs : List BatchValue) (k n : ℕ) (line : Line) → All IsSoundBatch bs →
    slice_get (journal_lines (after_all opening_state bs)) n ≡ Some line →
    (n ≤ k → Arrives (follow (follower bs k) (line ∷ [])) (follower bs (max k (n + 1))))
    × (k < n → line_outcome (follower bs k) line ≡ Err not_next)
