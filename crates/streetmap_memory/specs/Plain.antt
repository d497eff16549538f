-- The state that the plain keeper represents.
use Rattle.std.specs.Prelude.{Some, Option, ◌≡◌, ℕ, String, None, IsSome, T, not}
use mathlib.Core.Path.{subst}
use Rattle.std.proofs.Common.{sym, ap, ◌∙◌}
use Rattle.std.specs.BTreeMap.{BTreeMap}
use Rattle.std.specs.declared.alloc.Global.{Global}
use Rattle.streetmap_batch.specs.BatchValue.{BatchValue}
use Rattle.streetmap_ledger.specs.State.{State, AcceptedBatch}
use Rattle.streetmap_ledger.specs.Batches.{Outcome, fresh, edited}
use Rattle.streetmap_ledger.specs.WellFormed.{IsState}
use Rattle.streetmap_ledger.specs.Model.{Model}
use Rattle.streetmap_memory.specs.Slots.{SlotCollection, map_of}
use Rattle.streetmap_memory.specs.Does.{state_of}
use Rattle.streetmap_memory.specs.declared.plain.PlainKeeper.{PlainKeeper}
use Rattle.streetmap_ledger.specs.declared.reply.Reply.{Reply}
use Rattle.streetmap_ledger.specs.declared.reply.Cause.{Cause}

-- the state of the keeper's maps
abbrev pub plain_state : PlainKeeper → State
plain_state k = state_of (map_of k.collections.entries) (map_of k.keys.entries)

-- the outcome of a batch with a new key
abbrev pub outcome_of : BTreeMap (String Global) SlotCollection
    → BTreeMap (String Global) AcceptedBatch → BatchValue → ℕ → Outcome
outcome_of collections keys b serial =
    let s = state_of (map_of collections.entries) (map_of keys.entries) in
    fresh s b serial (edited 1 s b.edits)

-- the reply is the outcome's, and the maps are those of its state
abbrev pub IsOutcome : Outcome → Reply → BTreeMap (String Global) SlotCollection
    → BTreeMap (String Global) AcceptedBatch → Type 0
IsOutcome o reply collections keys = (reply ≡ o.reply)
    × (state_of (map_of collections.entries) (map_of keys.entries) ≡ o.state)

-- nothing shut a keeper that has no cause
pub never_shut : {B : Type 0} → IsSome {T = Cause} None → B
never_shut shut = absurd (subst (λ b. T (not b)) shut tt)

-- the state that the plain keeper represents: that of its maps, which is well-formed
pub record IsPlainState (k : PlainKeeper) (s : State) : Type 0 where
  pub is : plain_state k ≡ s
  pub sound : IsState s

-- it represents one state
pub one_plain : (k : PlainKeeper) (s t : State) → IsPlainState k s → IsPlainState k t → s ≡ t
one_plain k s t p q = sym p.is ∙ q.is

-- a crash leaves the state that it represents
abbrev pub PlainLeaves : PlainKeeper → Option State → Type 0
PlainLeaves k o = o ≡ Some (plain_state k)

pub leaves_plain : (k : PlainKeeper) (s : State) → IsPlainState k s → PlainLeaves k (Some s)
leaves_plain k s p = ap (λ t. Some t) (sym p.is)

-- its model: it is never shut, and no store of its own can fail
abbrev pub plain_model : Model PlainKeeper
plain_model = record {
  represents = IsPlainState;
  may_leave = PlainLeaves;
  cause = λ _. None;
  is_clean = λ _. Unit {0};
  applies = λ _ _ _ _. Unit {0};
  preserves = λ _ _. Unit {0};
  fails = λ _ _. Unit {0};
  one_state = one_plain;
  shut_has_none = λ k s shut is. never_shut shut;
  may_leave_it = leaves_plain;
  leaves_it = λ k s is o left. left ∙ sym (leaves_plain k s is);
  well_formed = λ k s is. is.sound;
  preserves_itself = λ _. tt;
  preserves_then = λ _ _ _ _ _. tt;
  fails_later = λ _ _ _ _ _ _. tt;
  fails_still = λ _ _ _ _ _ _. tt;
}
