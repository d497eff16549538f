-- Why a request is answered by an error: names, sentences, statuses, places and causes.
use Rattle.std.specs.Prelude.{ℕ, Option, None, Some, option_map, codes}
use Rattle.streetmap_http.specs.Faults as framing
use Rattle.streetmap_http.specs.declared.answer_head.Methods.{Methods}
use Rattle.streetmap_query.specs.Faults as query
use Rattle.streetmap_query.specs.declared.fault.QueryFault.{QueryFault}
use Rattle.streetmap_query.specs.declared.fault.QueryFault.TheVariants as query_faults
use Rattle.streetmap_geojson.specs.FaultCodes.{fault_code}
use Rattle.streetmap_batch.specs.BatchFaults as batch
use Rattle.streetmap_batch.specs.declared.batch_fault.BatchFault.{BatchFault}
use Rattle.streetmap_batch.specs.declared.batch_fault.BatchFault.TheVariants as batch_faults
use Rattle.streetmap_batch.specs.Text.{Text}
use Rattle.streetmap_ledger.specs.Refusals as ledger
use Rattle.streetmap_ledger.specs.declared.reply.Fault.{Fault}
use Rattle.streetmap_ledger.specs.declared.reply.Fault.TheVariants as keeper_faults
use Rattle.serde_json.specs.Data.{Data}
use Rattle.streetmap_bodies.specs.Errors.{error_data}
use Rattle.streetmap_bodies.specs.declared.request_fault.RequestFault.{RequestFault}
use Rattle.streetmap_bodies.specs.declared.request_fault.RequestFault.TheVariants.{Framing}
use Rattle.streetmap_bodies.specs.declared.request_fault.RequestFault.TheVariants.{BadTarget}
use Rattle.streetmap_bodies.specs.declared.request_fault.RequestFault.TheVariants.{NotFound}
use Rattle.streetmap_bodies.specs.declared.request_fault.RequestFault.TheVariants.{MethodNotAllowed}
use Rattle.streetmap_bodies.specs.declared.request_fault.RequestFault.TheVariants.{Query, Batch}
use Rattle.streetmap_bodies.specs.declared.request_fault.RequestFault.TheVariants.{Refused, Keeper}
use Rattle.streetmap_bodies.specs.declared.request_fault.RequestFault.TheVariants.{BadCondition}
use Rattle.streetmap_bodies.specs.declared.request_fault.RequestFault.TheVariants.{Changed}
use Rattle.streetmap_bodies.specs.declared.request_fault.RequestFault.TheVariants.{Fenced, Follower}
use Rattle.streetmap_bodies.specs.declared.request_fault.RequestFault.TheVariants.{BadSerial}

-- the name in the answer
unfoldable pub code_of : RequestFault → Text
code_of (Framing fault) = framing.code_of fault
code_of BadTarget = codes "bad_target"
code_of NotFound = codes "not_found"
code_of (MethodNotAllowed methods) = codes "method_not_allowed"
code_of (Query fault) = query.code_of fault
code_of BadSerial = codes "bad_serial"
code_of (Batch fault) = batch.code_of fault
code_of (Refused refusal place) = ledger.code_of refusal
code_of BadCondition = codes "bad_condition"
code_of Changed = codes "changed"
code_of Fenced = codes "fenced"
code_of Follower = codes "follower"
code_of (Keeper fault) = ledger.fault_code fault

-- the sentence in the answer
unfoldable pub description_of : RequestFault → Text
description_of (Framing fault) = framing.description_of fault
description_of BadTarget = codes "The target must begin with a slash."
description_of NotFound = codes "There is nothing at this path."
description_of (MethodNotAllowed methods) = codes "The method is not allowed here."
description_of (Query fault) = query.description_of fault
description_of BadSerial = codes "The value of after is no serial."
description_of (Batch fault) = batch.description_of fault
description_of (Refused refusal place) = ledger.description_of refusal
description_of BadCondition = codes "A condition cannot be read."
description_of Changed = codes "The state is not as a condition requires."
description_of Fenced = codes "This server takes no batches."
description_of Follower = codes "This server takes batches from its follower script only."
description_of (Keeper fault) = ledger.fault_description fault

-- the status of a query that cannot be read
abbrev pub query_status : QueryFault → ℕ
query_status query_faults.Memory = 503
query_status _ = 400

-- the status of a batch that cannot be read
abbrev pub batch_status : BatchFault → ℕ
batch_status batch_faults.Memory = 503
batch_status _ = 400

-- the status of a keeper that did not answer
abbrev pub keeper_status : Fault → ℕ
keeper_status keeper_faults.Memory = 503
keeper_status _ = 500

-- the status of the answer; RFC 9110, section 15
abbrev pub status_of : RequestFault → ℕ
status_of (Framing fault) = framing.status_of fault
status_of BadTarget = 400
status_of NotFound = 404
status_of (MethodNotAllowed methods) = 405
status_of (Query fault) = query_status fault
status_of BadSerial = 400
status_of (Batch fault) = batch_status fault
status_of (Refused refusal place) = 409
status_of BadCondition = 400
status_of Changed = 412
status_of Fenced = 403
status_of Follower = 403
status_of (Keeper fault) = keeper_status fault

-- the place of the edit at fault, counted from 1
abbrev pub place_of : RequestFault → Option ℕ
place_of (Batch fault) = batch.place_of fault
place_of (Refused refusal place) = place
place_of _ = None

-- the name of the fault within a feature
abbrev pub cause_of : RequestFault → Option Text
cause_of (Batch fault) = option_map fault_code (batch.cause_of fault)
cause_of _ = None

-- the methods that are allowed
abbrev pub allow_of : RequestFault → Option Methods
allow_of (MethodNotAllowed methods) = Some methods
allow_of _ = None

-- the body of the answer
unfoldable pub fault_body : RequestFault → Data
fault_body fault = error_data (code_of fault) (description_of fault) (place_of fault)
    (cause_of fault)
