-- What is guaranteed of batches in order.
use Rattle.std.specs.Prelude.{◌≡◌, ℕ, ◌+◌, List, length, take, Option, None, Some, IsNone}
use Rattle.streetmap_batch.specs.BatchValue.{BatchValue}
use Rattle.streetmap_ledger.specs.State.{State}
use Rattle.streetmap_ledger.specs.Batches.{replies_of, after_all}
use Rattle.streetmap_ledger.specs.declared.reply.Reply.{Reply}
use Rattle.streetmap_ledger.specs.declared.reply.Fault.{Fault}
use Rattle.streetmap_ledger.specs.declared.reply.Fault.TheVariants.{Memory, Device, Damaged, Reopen}
use Rattle.streetmap_guarantee.specs.Server.{Server, serving, failed, HasKept}

-- The server after the first k batches, if the run ended with this fault: out of memory changes
-- nothing, and a store that failed has kept the state before the next batch or after it.
abbrev pub EndsAs : State → List BatchValue → ℕ → Option Fault → Server → Type 0
EndsAs s bs k None server = server ≡ serving (after_all s (take k bs))
EndsAs s bs k (Some Memory) server = server ≡ serving (after_all s (take k bs))
EndsAs s bs k (Some Device) server =
    server ≡ failed (after_all s (take k bs)) (after_all s (take (k + 1) bs))
EndsAs s bs k (Some Damaged) server = ⊥
EndsAs s bs k (Some Reopen) server = ⊥

-- The replies are those of the first batches, of all if no fault occurred. Whatever a crash leaves
-- holds the state after these, or, if the store failed, after one more.
pub record GuaranteeOfRun {Image : Type 0} (holds : Image → State → Type 0)
    (leaves : Image → Type 0) (s : State) (batches : List BatchValue) (replies : List Reply)
    (fault : Option Fault) : Type 0 where
  pub replied : replies ≡ replies_of s (take (length replies) batches)
  pub all : IsNone fault → length replies ≡ length batches
  pub server : Server
  pub ends : EndsAs s batches (length replies) fault server
  pub survives : (image : Image) → leaves image → (t : State) × holds image t × HasKept server t
