-- The result of a replay.
use Rattle.std.proofs.Common.{◌≡◌, ℕ, Bool, true, false, Some, Result, Ok, Err}
use Rattle.std.proofs.Common.{refl, sym, ap}
use Rattle.std.proofs.Common.{subst, ◌∙◌}
use Rattle.std.specs.Prelude.{string_bytes}
use Rattle.std.specs.FinMap.{get}
use Rattle.streetmap_batch.specs.Text.{Text}
use Rattle.streetmap_ledger.specs.Kept.{KeyedBatch}
use Rattle.streetmap_ledger.specs.Model.{Model}
use Rattle.streetmap_ledger.specs.State.{State}
use Rattle.streetmap_ledger.specs.WellFormed.{IsState}
use Rattle.streetmap_ledger.specs.declared.reply.Fault.{Fault}
use Rattle.streetmap_ledger.specs.declared.reply.Fault.TheVariants as faults
use Rattle.streetmap_replay.specs.Replay.{Replays}
use Rattle.streetmap_replay.specs.Checked.{replayed, GivesBatches, Checks}
use Rattle.streetmap_replay.specs.Alike.{Differs, Compares}
use Rattle.streetmap_replay.specs.Given.{GivesAll, GivesPart, GivesRow, given_again}
use Rattle.streetmap_replay.specs.Calls.{fails_by, Stays}
use Rattle.streetmap_replay.specs.Stops.{IsForeseen, fresh_end}
use Rattle.streetmap_replay.specs.declared.fault.ReplayFault.{ReplayFault}
use Rattle.streetmap_replay.specs.declared.fault.ReplayFault.TheVariants.{Kept, Fresh, Memory}
use Rattle.streetmap_replay.specs.declared.fault.ReplayFault.TheVariants.{Batch, Collection}
use Rattle.streetmap_replay.proofs.NotGivenAgain.{stop_refutes}

foreseen : {K : Type 0} (model : Model K) (a b : K) (t : State) (fault : Fault) → Stays model a b t (fails_by fault) → IsForeseen fault
foreseen model a b t faults.Memory h = tt
foreseen model a b t faults.Device h = tt
foreseen model a b t faults.Damaged h = h
foreseen model a b t faults.Reopen h = h

module _ (s t : State) (given : GivesAll s t) where
  whole_same : s.collections ≡ t.collections → t ≡ s
  whole_same same = λ i. record { collections = sym same i; keys = given.keys i }

  replays : s.collections ≡ t.collections → Replays s
  replays same = record {
    there = given.followed.there ∙ whole_same same;
    whole = given.followed.whole;
  }

  -- a collection that differs
  other : (name : Text) → Differs s t name → Replays s → ⊥
  other name it h =
      let same : s ≡ t = sym h.there ∙ given.followed.there in
      it.other (ap (λ (x : State). get x.collections name) same)

  as_replayed : GivesAll s (replayed s)
  as_replayed = record {
    followed = record { there = refl; whole = given.followed.whole };
    keys = ap (λ (x : State). x.keys) given.followed.there ∙ given.keys;
  }

  pub compared : {K T : Type 0} (model : Model K) (a b : K) (result : Result T ReplayFault) → Compares s t (s.collections ≡ t.collections) result →
      Stays model a b t (fresh_end result)
      → Checks s result (model.represents b)
  compared model a b (Ok done) h stays = (replays h, subst (model.represents b) (whole_same h) stays)
  compared model a b (Err (Kept fault)) h stays = tt
  compared model a b (Err (Fresh fault)) h stays = foreseen model a b t fault stays
  compared model a b (Err Memory) h stays = tt
  compared model a b (Err (Batch serial)) h stays = absurd h
  compared model a b (Err (Collection name)) h stays = (
    other _ h,
    as_replayed,
    subst (λ (u : State). Differs s u (string_bytes name)) (sym given.followed.there) h,
  )

pub not_given : (s : State) (fault : ReplayFault) (fresh : State → Type 0) → GivesBatches {T = Unit {0}} s (Err fault) fresh →
    Checks {T = Unit {0}} s (Err fault) fresh
not_given s (Kept fault) fresh h = h
not_given s (Fresh fault) fresh h = h
not_given s Memory fresh h = h
not_given s (Batch serial) fresh h = h
not_given s (Collection name) fresh h = absurd h

-- a part with a batch that its text does not reproduce
pub part_fault : (s : State) (n : ℕ) (fault : ReplayFault) (fresh : State → Type 0) → IsState s → GivesPart {T = Unit {0}} s n (Err fault) fresh →
    GivesBatches {T = Unit {0}} s (Err fault) fresh
part_fault s n (Kept fault) fresh sound it = absurd it
part_fault s n (Fresh fault) fresh sound it = it
part_fault s n Memory fresh sound it = it
part_fault s n (Batch serial) fresh sound it = (stop_refutes s serial sound it, it)
part_fault s n (Collection name) fresh sound it = absurd it

-- a batch that was not reproduced, because memory ran out or the keeper failed
pub row_stop : (s t : State) (n : ℕ) (batch : KeyedBatch) (stop : ReplayFault)
    (fresh : State → Type 0) → GivesRow t batch (Err stop) fresh →
    GivesPart {T = Unit {0}} s n (Err stop) fresh
row_stop s t n batch (Kept fault) fresh h = absurd h
row_stop s t n batch (Fresh fault) fresh h = h
row_stop s t n batch Memory fresh h = h
row_stop s t n batch (Batch serial) fresh h = absurd h
row_stop s t n batch (Collection name) fresh h = absurd h

-- whether the batch was reproduced
pub row_true : (t : State) (batch : KeyedBatch) (is : Bool) (represents : State → Type 0) → is ≡ true →
    GivesRow t batch (Ok is) represents → GivesRow t batch (Ok true) represents
row_true t batch is represents e h = subst (λ (b : Bool). GivesRow t batch (Ok b) represents) e h

pub row_false : (t : State) (batch : KeyedBatch) (is : Bool) (represents : State → Type 0) →
    is ≡ false → GivesRow t batch (Ok is) represents → given_again t batch ≡ Some batch → ⊥
row_false t batch is represents e h = subst (λ (b : Bool). GivesRow t batch (Ok b) represents) e h
