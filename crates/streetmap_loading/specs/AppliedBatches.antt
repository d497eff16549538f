-- A batch that is applied to a keeper.
use Rattle.std.specs.Prelude.{◌≡◌, ℕ, Option, Some, Result, Ok, Err}
use Rattle.streetmap_batch.specs.BatchValue.{BatchValue}
use Rattle.streetmap_ledger.specs.Model.{Model}
use Rattle.streetmap_ledger.specs.Keep.{IsWrite}
use Rattle.streetmap_ledger.specs.declared.reply.Fault.{Fault}
use Rattle.streetmap_ledger.specs.declared.reply.Reply.{Reply}
use Rattle.streetmap_ledger.specs.declared.reply.Reply.TheVariants.{Accepted, Repeated, Refused}
use Rattle.streetmap_loading.specs.declared.load_fault.LoadFault.{LoadFault}
use Rattle.streetmap_loading.specs.declared.load_fault.LoadFault.TheVariants as faults

-- the result for a reply: the serial, or why the batch was not taken
abbrev pub taken_of : Result Reply Fault → Result (Option ℕ) LoadFault
taken_of (Ok (Accepted counts serial)) = Ok (Some serial)
taken_of (Ok (Repeated counts serial)) = Ok (Some serial)
taken_of (Ok (Refused why place)) = Err (faults.Refused why place)
taken_of (Err fault) = Err (faults.Stopped fault)

-- from the first keeper to the second the batch was applied, and this is the result for its reply
pub record Applies {K : Type 0} (model : Model K) (old : K) (b : BatchValue)
    (result : Result (Option ℕ) LoadFault) (new : K) : Type 0 where
  pub reply : Result Reply Fault
  pub is : result ≡ taken_of reply
  pub write : IsWrite model old new b reply
