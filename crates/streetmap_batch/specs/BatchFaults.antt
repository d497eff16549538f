-- Why a batch is refused: the names and sentences of the refusals, and what a reader returns,
-- compared with what is read.
use Rattle.std.specs.Prelude.{◌≡◌, ℕ, codes, Option, None, Some, Result, Ok, Err}
use Rattle.streetmap_geojson.specs.declared.fault.Fault.{Fault}
use Rattle.streetmap_batch.specs.Text.{Text}
use Rattle.streetmap_batch.specs.declared.batch_fault.BatchFault.{BatchFault}
use Rattle.streetmap_batch.specs.declared.batch_fault.BatchFault.TheVariants.{BadBatch, BadKey}
use Rattle.streetmap_batch.specs.declared.batch_fault.BatchFault.TheVariants.{TooManyEdits}
use Rattle.streetmap_batch.specs.declared.batch_fault.BatchFault.TheVariants.{BadFeature, Memory}

unfoldable pub code_of : BatchFault → Text
code_of (BadBatch place) = codes "bad_batch"
code_of BadKey = codes "bad_key"
code_of TooManyEdits = codes "too_many_edits"
code_of (BadFeature place cause) = codes "bad_feature"
code_of Memory = codes "memory"

unfoldable pub description_of : BatchFault → Text
description_of (BadBatch place) = codes "The batch cannot be read."
description_of BadKey = codes "The key of the batch cannot be read."
description_of TooManyEdits = codes "The batch has more than 10000 edits."
description_of (BadFeature place cause) = codes "A feature of the batch cannot be read."
description_of Memory = codes "Memory was refused; the call may be made again."

-- the place of the edit at fault, counted from 1
abbrev pub place_of : BatchFault → Option ℕ
place_of (BadBatch place) = place
place_of (BadFeature place cause) = Some place
place_of _ = None

-- what is wrong with a feature
abbrev pub cause_of : BatchFault → Option Fault
cause_of (BadFeature place cause) = Some cause
cause_of _ = None

-- a fault other than memory is that of what is read
abbrev pub Fails : {Y : Type 0} → BatchFault → Result Y BatchFault → Type 0
Fails (BadBatch place) read = read ≡ Err (BadBatch place)
Fails BadKey read = read ≡ Err BadKey
Fails TooManyEdits read = read ≡ Err TooManyEdits
Fails (BadFeature place cause) read = read ≡ Err (BadFeature place cause)
Fails Memory read = Unit {0}

-- the result, seen by view, is what is read, unless memory ran out
abbrev pub Gives : {X Y : Type 0} → (X → Y) → Result X BatchFault → Result Y BatchFault → Type 0
Gives view (Ok x) read = read ≡ Ok (view x)
Gives view (Err e) read = Fails e read
