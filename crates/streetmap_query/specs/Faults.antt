-- What is wrong with a query.
use Rattle.std.specs.Prelude.{◌≡◌, ℕ, List, Result, Ok, Err, codes}
use Rattle.streetmap_query.specs.declared.fault.QueryFault.{QueryFault}
use Rattle.streetmap_query.specs.declared.fault.QueryFault.TheVariants.{UnknownParameter}
use Rattle.streetmap_query.specs.declared.fault.QueryFault.TheVariants.{RepeatedParameter}
use Rattle.streetmap_query.specs.declared.fault.QueryFault.TheVariants.{BadLimit, BadBbox}
use Rattle.streetmap_query.specs.declared.fault.QueryFault.TheVariants.{BadDatetime, BadAfter}
use Rattle.streetmap_query.specs.declared.fault.QueryFault.TheVariants.{Memory}

-- the name of a fault in an answer
abbrev pub code_of : QueryFault → List ℕ
code_of UnknownParameter = codes "unknown_parameter"
code_of RepeatedParameter = codes "repeated_parameter"
code_of BadLimit = codes "bad_limit"
code_of BadBbox = codes "bad_bbox"
code_of BadDatetime = codes "bad_datetime"
code_of BadAfter = codes "bad_after"
code_of Memory = codes "memory"

-- the sentence of a fault in an answer
abbrev pub description_of : QueryFault → List ℕ
description_of UnknownParameter = codes "A parameter is not known here."
description_of RepeatedParameter = codes "A parameter stands twice."
description_of BadLimit = codes "The limit must be a whole number from 1."
description_of BadBbox = codes "The box must be four whole numbers in order."
description_of BadDatetime = codes "The date-time or interval cannot be read."
description_of BadAfter = codes "The value of after is no id."
description_of Memory = codes "Memory was refused; the call may be made again."

-- the fault is what reading gives; nothing is claimed if memory ran out
abbrev pub Fails : {Y : Type 0} → QueryFault → Result Y QueryFault → Type 0
Fails Memory read = Unit {0}
Fails e read = read ≡ Err e

-- what a call returned, seen by view, is what reading gives, unless memory ran out
abbrev pub Gives : {X Y : Type 0} → (X → Y) → Result X QueryFault → Result Y QueryFault → Type 0
Gives view (Ok x) read = read ≡ Ok (view x)
Gives view (Err e) read = Fails e read
