-- Why a text is not read into a batch: what a reader returns, compared with what is read.
use Rattle.std.specs.Prelude.{◌≡◌, Result, Ok, Err}
use Rattle.streetmap_batch.specs.declared.batch_fault.BatchFault.{BatchFault}
use Rattle.streetmap_batch.specs.declared.batch_fault.BatchFault.TheVariants as batch
use Rattle.streetmap_exchange.specs.declared.fault.ImportFault.{ImportFault}
use Rattle.streetmap_exchange.specs.declared.fault.ImportFault.TheVariants.{BadKey, BadBatch}
use Rattle.streetmap_exchange.specs.declared.fault.ImportFault.TheVariants.{BadFeature, Memory}
use Rattle.streetmap_exchange.specs.declared.fault.ImportFault.TheVariants.{TooManyEdits}
use Rattle.streetmap_exchange.specs.declared.fault.ImportFault.TheVariants.{Refused, Stopped}

-- the refusal of a batch, as a refusal of the text that it is made of
abbrev pub of_batch : BatchFault → ImportFault
of_batch (batch.BadBatch place) = BadBatch
of_batch batch.BadKey = BadKey
of_batch batch.TooManyEdits = TooManyEdits
of_batch (batch.BadFeature place cause) = BadFeature place cause
of_batch batch.Memory = Memory

-- a fault other than memory is that of what is read, and none is of a keeper
abbrev pub FailsToRead : {Y : Type 0} → ImportFault → Result Y ImportFault → Type 0
FailsToRead Memory read = Unit {0}
FailsToRead (Refused why place) read = ⊥
FailsToRead (Stopped fault) read = ⊥
FailsToRead e read = read ≡ Err e

-- the result, seen by view, is what is read, unless memory ran out
abbrev pub IsReadBy : {X Y : Type 0} → (X → Y) → Result X ImportFault → Result Y ImportFault
    → Type 0
IsReadBy view (Ok x) read = read ≡ Ok (view x)
IsReadBy view (Err e) read = FailsToRead e read
