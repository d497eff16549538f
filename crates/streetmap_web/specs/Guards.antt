-- Which batches a service refuses.
use Rattle.std.specs.Prelude.{Bool, true, false, Option, None, Some, bytes_eq, if◌then◌else◌}
use Rattle.streetmap_batch.specs.Text.{Text}
use Rattle.streetmap_routes.specs.Operations.{OperationValue, faulty, batch}
use Rattle.streetmap_bodies.specs.declared.request_fault.RequestFault.{RequestFault}
use Rattle.streetmap_bodies.specs.declared.request_fault.RequestFault.TheVariants as faults

-- a service refuses no batch; or each; or each of a request without its follower script's token
pub data GuardValue : Type 0 where
  free : GuardValue
  fenced : GuardValue
  follower : (its : Text) → GuardValue

-- whether it is the fault of a batch that cannot be read
abbrev pub is_batch_fault : RequestFault → Bool
is_batch_fault (faults.Batch fault) = true
is_batch_fault _ = false

-- whether it is a batch, or one that cannot be read
abbrev pub is_of_batch : OperationValue → Bool
is_of_batch (batch b) = true
is_of_batch (faulty fault) = is_batch_fault fault
is_of_batch _ = false

-- whether a request has this token
abbrev pub has_token : Text → Option Text → Bool
has_token its None = false
has_token its (Some token) = bytes_eq token its

-- why the batches of a request with this token are refused, if they are
abbrev pub refusal_by : GuardValue → (token : Option Text) → Option RequestFault
refusal_by free token = None
refusal_by fenced token = Some faults.Fenced
refusal_by (follower its) token = if has_token its token then None else Some faults.Follower

-- a batch is refused for this reason, if it is one; other operations stay
abbrev pub refused_for : Option RequestFault → OperationValue → OperationValue
refused_for None operation = operation
refused_for (Some fault) operation = if is_of_batch operation then faulty fault else operation

-- what is wanted of a service with this guard
unfoldable pub guarded : GuardValue → (token : Option Text) → OperationValue → OperationValue
guarded guard token operation = refused_for (refusal_by guard token) operation
