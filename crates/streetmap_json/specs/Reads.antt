-- What a reader returns, compared with the value that the bytes have.
use Rattle.std.specs.Prelude.{◌≡◌, Option, None, Some, Result, Ok, Err}
use Rattle.serde_json.specs.Data.{Data}
use Rattle.serde_json.specs.View.{view}
use Rattle.serde_json.specs.declared.value.Value.{Value}
use Rattle.streetmap_json.specs.declared.fault.ParseFault.{ParseFault}
use Rattle.streetmap_json.specs.declared.fault.ParseFault.TheVariants as errors

-- a fault other than memory is returned only if the bytes have no value
abbrev pub Fails : {Y : Type 0} → ParseFault → Option Y → Type 0
Fails errors.Memory value = Unit {0}
Fails errors.NotJson value = value ≡ None

-- the result is the value, if the bytes have one, unless memory ran out
abbrev pub Reads : Result Value ParseFault → Option Data → Type 0
Reads (Ok v) value = value ≡ Some (view v)
Reads (Err e) value = Fails e value
