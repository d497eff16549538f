-- What following a line does to a keeper.
use Rattle.std.specs.Prelude.{◌≡◌, ℕ, Option, None, Some, Result, Ok, Err, IfErr}
use Rattle.streetmap_batch.specs.BatchValue.{BatchValue}
use Rattle.streetmap_batch.specs.declared.batch_fault.BatchFault.{BatchFault}
use Rattle.streetmap_batch.specs.declared.batch_fault.BatchFault.TheVariants as batches
use Rattle.streetmap_ledger.specs.Batches.{Outcome}
use Rattle.streetmap_ledger.specs.Keep.{LeavesEither}
use Rattle.streetmap_ledger.specs.Model.{Model}
use Rattle.streetmap_ledger.specs.State.{State}
use Rattle.streetmap_ledger.specs.declared.reply.Fault.TheVariants.{Memory, Device, Damaged, Reopen}
use Rattle.streetmap_ledger.specs.declared.reply.Reply.{Reply}
use Rattle.streetmap_replay.specs.Calls.{LastAnswer, fails_by, AreCalls}
use Rattle.streetmap_replay.specs.FollowedLines.{LineFault, unread, not_next, refused}
use Rattle.streetmap_replay.specs.FollowedLines.{acted, acted_next}
use Rattle.streetmap_replay.specs.declared.follow_fault.FollowFault.{FollowFault}
use Rattle.streetmap_replay.specs.declared.follow_fault.FollowFault.TheVariants.{Unread, NotNext}
use Rattle.streetmap_replay.specs.declared.follow_fault.FollowFault.TheVariants.{Refused, Stopped}
use Rattle.streetmap_replay.specs.declared.follow_fault.FollowFault.TheVariants.{CutLine, NotRead}
use Rattle.streetmap_replay.specs.declared.follow_fault.FollowFault.TheVariants.{NotReported}

-- the outcome of a batch that was read, with a serial, if any
abbrev pub acted_with : State → Option ℕ → Result BatchValue BatchFault → Result Outcome LineFault
acted_with s None read = acted s read
acted_with s (Some serial) read = acted_next s serial read

-- the faults of a line that was read from the input
abbrev pub IsOfLine : FollowFault → Type 0
IsOfLine (Unread fault) = Unit {0}
IsOfLine NotNext = Unit {0}
IsOfLine (Refused why place) = Unit {0}
IsOfLine (Stopped fault) = Unit {0}
IsOfLine CutLine = ⊥
IsOfLine (NotRead fault) = ⊥
IsOfLine NotReported = ⊥

-- the keeper's answer to a line; none if the line is not read as a batch, and the keeper is not
-- called
abbrev pub answer_of : {T : Type 0} → Result T FollowFault → LastAnswer
answer_of (Ok x) = Some (Ok tt)
answer_of (Err (Unread fault)) = None
answer_of (Err NotNext) = Some (Ok tt)
answer_of (Err (Refused why place)) = Some (Ok tt)
answer_of (Err (Stopped fault)) = fails_by fault
answer_of (Err CutLine) = None
answer_of (Err (NotRead fault)) = None
answer_of (Err NotReported) = None

-- the state after an outcome
abbrev pub state_after : State → Result Outcome LineFault → State
state_after s (Ok o) = o.state
state_after s (Err why) = s

-- what was returned of an outcome, if the keeper represented this state: the reply, and it
-- represents the state after it; or why no reply exists, and the state stays; or the store failed,
-- and a crash leaves the state before the line or the one after it
abbrev pub Follows : {K : Type 0} → Model K → (old new : K) → State → Result Outcome LineFault
    → Result Reply FollowFault → Type 0
Follows model old new s outcome (Ok reply) =
    (o : Outcome) × (outcome ≡ Ok o) × (reply ≡ o.reply) × model.represents new o.state
Follows model old new s outcome (Err (Unread batches.Memory)) = model.represents new s
Follows model old new s outcome (Err (Unread fault)) =
    (outcome ≡ Err (unread fault)) × model.represents new s
Follows model old new s outcome (Err NotNext) =
    (outcome ≡ Err not_next) × model.represents new s
Follows model old new s outcome (Err (Refused why place)) =
    (outcome ≡ Err (refused why place)) × model.represents new s
Follows model old new s outcome (Err (Stopped Memory)) = model.represents new s
Follows model old new s outcome (Err (Stopped Device)) = model.fails old new
    × LeavesEither (model.may_leave new) (Some s) (Some (state_after s outcome))
Follows model old new s outcome (Err (Stopped Damaged)) = ⊥
Follows model old new s outcome (Err (Stopped Reopen)) = ⊥
Follows model old new s outcome (Err CutLine) = ⊥
Follows model old new s outcome (Err (NotRead fault)) = ⊥
Follows model old new s outcome (Err NotReported) = ⊥

-- the calls for a batch that a line has: the outcome is what it is in the keeper's state
pub record IsFollowed {K : Type 0} (model : Model K) (old new : K)
    (outcome : State → Result Outcome LineFault) (result : Result Reply FollowFault) : Type 0 where
  pub of_line : IfErr result IsOfLine
  pub calls : AreCalls model old new (answer_of result)
  pub follows : model.is_clean new → (s : State) → model.represents old s
      → Follows model old new s (outcome s) result
