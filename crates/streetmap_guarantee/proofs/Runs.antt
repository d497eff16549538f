-- What a crash leaves of batches in order.
use Rattle.std.proofs.Common.{ℕ, ◌+◌, List, take, Option, None, Some, refl}
use Rattle.streetmap_batch.specs.BatchValue.{BatchValue}
use Rattle.streetmap_ledger.specs.State.{State}
use Rattle.streetmap_ledger.specs.Batches.{after_all}
use Rattle.streetmap_ledger.specs.Model.{Model}
use Rattle.streetmap_ledger.specs.Keep.{RunEnds}
use Rattle.streetmap_ledger.specs.declared.reply.Fault.{Fault}
use Rattle.streetmap_ledger.specs.declared.reply.Fault.TheVariants.{Memory, Device, Damaged, Reopen}
use Rattle.streetmap_guarantee.specs.Server.{Server, serving, failed}
use Rattle.streetmap_guarantee.specs.Runs.{EndsAs}
use Rattle.streetmap_guarantee.proofs.Crashes.{IsKeeperOf}

-- a server as the run ended, and the second keeper is its keeper
pub record Kept {K : Type 0} (model : Model K) (new : K) (s : State) (bs : List BatchValue) (k : ℕ) (fault : Option Fault) : Type 0 where
  pub server : Server
  pub ends : EndsAs s bs k fault server
  pub keeper : IsKeeperOf model new server

pub run_kept : {K : Type 0} (model : Model K) (old new : K) (s : State) (bs : List BatchValue) (k : ℕ) (fault : Option Fault)
    → RunEnds model old new s bs k fault → Kept model new s bs k fault
run_kept model old new s bs k None ends = record { server = serving (after_all s (take k bs)); ends = refl; keeper = ends }
run_kept model old new s bs k (Some Memory) ends = record { server = serving (after_all s (take k bs)); ends = refl; keeper = ends }
run_kept model old new s bs k (Some Device) ends =
    record { server = failed (after_all s (take k bs)) (after_all s (take (k + 1) bs)); ends = refl; keeper = ends.1 }
run_kept model old new s bs k (Some Damaged) ends = absurd ends
run_kept model old new s bs k (Some Reopen) ends = absurd ends
