-- What is known of a kind of keeper, and what each keeper of it owes.
use Rattle.std.specs.Prelude.{◌≡◌, Option, Some, IsSome, Result}
use Rattle.streetmap_batch.specs.BatchValue.{BatchValue}
use Rattle.streetmap_ledger.specs.State.{State}
use Rattle.streetmap_ledger.specs.WellFormed.{IsState}
use Rattle.streetmap_ledger.specs.declared.reply.Cause.{Cause}
use Rattle.streetmap_ledger.specs.declared.reply.Fault.{Fault}
use Rattle.streetmap_ledger.specs.declared.reply.Reply.{Reply}

-- a kind of keeper: which states it represents, what is known of its calls, and the laws it owes
pub record Model (K : Type 0) : Type 1 where
  -- a keeper represents this state; it represents none if it is shut, or if its store is no state's
  pub represents : K → State → Type 0
  -- what a crash may leave: a state, or (none) something that is no state's
  pub may_leave : K → Option State → Type 0
  -- what shut it
  pub cause : K → Option Cause
  -- nobody else wrote to the store, and it returned what was written
  pub is_clean : K → Type 0
  -- a call of `apply` with this batch led from the first keeper to this result and the second. In
  -- code over any keeper only the call proves it, so a caller can report no other result
  pub applies : K → BatchValue → Result Reply Fault → K → Type 0
  -- from the first to the second its store kept what is not the state's, as in each call. In code
  -- over any keeper only the calls prove it
  pub preserves : K → K → Type 0
  -- its store failed between the first and the second, if `Device` shut the second
  pub fails : K → K → Type 0
  -- it represents one state at most
  pub one_state : (k : K) (s t : State) → represents k s → represents k t → s ≡ t
  -- a shut keeper represents no state
  pub shut_has_none : (k : K) (s : State) → IsSome (cause k) → represents k s → ⊥
  -- a crash may leave the state that it represents
  pub may_leave_it : (k : K) (s : State) → represents k s → may_leave k (Some s)
  -- and leaves nothing else
  pub leaves_it : (k : K) (s : State) → represents k s → (o : Option State) → may_leave k o
      → o ≡ Some s
  -- the states that it represents are well-formed
  pub well_formed : (k : K) (s : State) → represents k s → IsState s
  -- if no call is made all is kept
  pub preserves_itself : (k : K) → preserves k k
  -- what two runs of calls keep, the two together keep
  pub preserves_then : (first mid last : K) → preserves first mid → preserves mid last
      → preserves first last
  -- if the store failed in the second of two runs of calls, it failed in the two together
  pub fails_later : (first mid last : K) → preserves first mid → preserves mid last
      → fails mid last → fails first last
  -- if the store failed in the first of two runs of calls and shut the keeper, it failed in the two
  -- together
  pub fails_still : (first mid last : K) → fails first mid → IsSome (cause mid)
      → preserves mid last → fails first last
