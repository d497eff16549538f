-- The results of the functions that answer.
use Rattle.std.specs.Prelude.{◌≡◌, ◌≢◌, ◌⊎◌, ℕ, Bool, true, false, Option, None, Some, IsSome}
use Rattle.std.specs.Prelude.{Result, Ok, Err, is_some, ◌||◌}
use Rattle.std.specs.Prelude.{string_bytes, ⊤}
use Rattle.streetmap_batch.specs.Text.{Text}
use Rattle.streetmap_batch.specs.BatchValue.{BatchValue}
use Rattle.streetmap_ledger.specs.State.{State}
use Rattle.streetmap_ledger.specs.Model.{Model}
use Rattle.streetmap_ledger.specs.Keep.{LeavesEither, LeavesSame}
use Rattle.streetmap_ledger.specs.declared.reply.Cause.{Cause}
use Rattle.streetmap_ledger.specs.declared.reply.Cause.TheVariants as causes
use Rattle.streetmap_ledger.specs.declared.reply.Fault.{Fault}
use Rattle.streetmap_ledger.specs.declared.reply.Fault.TheVariants as faults
use Rattle.streetmap_ledger.specs.declared.reply.Reply.{Reply}
use Rattle.streetmap_ledger.specs.declared.reply.Reply.TheVariants.{Accepted, Repeated, Refused}
use Rattle.streetmap_routes.specs.Operations.{OperationValue, batch}
use Rattle.streetmap_http.specs.Preconditions.{PreconditionsValue}
use Rattle.streetmap_web.specs.Site.{SiteValue}
use Rattle.streetmap_web.specs.Response.{ResponseValue, Wanted, response_to, response_shut}
use Rattle.streetmap_web.specs.Response.{state_to, needs_state, fault_response, response_text}
use Rattle.streetmap_web.specs.Response.{replied, tagged, changed, with_serial, RequestValue}
use Rattle.streetmap_web.specs.Response.{AnswerSent}
use Rattle.streetmap_web.specs.Response.{sent_as, sent_so}
use Rattle.streetmap_web.specs.Conditions.{Condition, RequestOutcome, device_failed, answer_by}
use Rattle.streetmap_web.specs.Conditions.{after}
use Rattle.streetmap_web.specs.Conditions.{CanBe, Leaves, ByCalls, IsInCondition}
use Rattle.streetmap_http.specs.declared.fault.FramingFault.{FramingFault}
use Rattle.streetmap_bodies.specs.declared.request_fault.RequestFault.{RequestFault}
use Rattle.streetmap_bodies.specs.declared.request_fault.RequestFault.TheVariants.{Keeper, Framing}
use Rattle.streetmap_web.specs.declared.response.Response.{Response}
use Rattle.streetmap_connections.specs.Answers.{answer_text}
use Rattle.streetmap_connections.specs.declared.service.Answer.{Answer}

-- an answer without its head, as a value
abbrev pub response_value : Response → ResponseValue
response_value b = record {
  status = b.status;
  kind = b.kind;
  tag = b.tag;
  serial = b.serial;
  allow = b.allow;
  body = string_bytes b.body;
}

-- the response has this value
abbrev pub IsResponse : Response → ResponseValue → Type 0
IsResponse response p = response_value response ≡ p

-- the bytes with their head, and whether the connection closes after them, are those of this
-- response as it is sent for a request
abbrev pub IsSentFor : RequestValue → Answer × Bool → ResponseValue → Type 0
IsSentFor request r p = sent_so (answer_text r.0) r.1 ≡ sent_as request p

-- ---- by the condition of the keeper

-- a fault of a keeper that represented a state: memory ran out and it still does; or the store
-- failed and shut it, and a crash leaves the state before the request or the one after it
abbrev pub FaultsIn : {K : Type 0} → Model K → State → OperationValue → (next : State)
    → (old new : K) → Fault → Type 0
FaultsIn model s operation next old new faults.Memory = model.represents new s
FaultsIn model s operation next old new faults.Device = (needs_state operation ≡ true)
    × (model.cause new ≡ Some causes.Device) × model.fails old new
    × LeavesEither (model.may_leave new) (Some s) (Some next)
FaultsIn model s operation next old new faults.Damaged = ⊥
FaultsIn model s operation next old new faults.Reopen = ⊥

-- of a keeper that represented a state: this response, and the keeper represents the next state;
-- or the fault that is to be answered
abbrev pub RespondsIn : {K A : Type 0} → Model K → State → OperationValue → ResponseValue
    → (next : State) → (A → ResponseValue → Type 0) → (old new : K) → Result A Fault → Type 0
RespondsIn model s operation answer next Is old new (Ok r) = Is r answer × model.represents new next
RespondsIn model s operation answer next Is old new (Err fault) =
    FaultsIn model s operation next old new fault

-- a fault with a shut keeper: memory ran out, or it is the response
abbrev pub FaultsShut : Text → OperationValue → Fault → Type 0
FaultsShut root operation faults.Memory = ⊤
FaultsShut root operation faults.Device = ⊥
FaultsShut root operation faults.Damaged = ⊥
FaultsShut root operation faults.Reopen = response_shut root operation
    ≡ fault_response (Keeper faults.Reopen)

-- the same with a shut keeper
abbrev pub RespondsShut : {A : Type 0} → Text → OperationValue → (A → ResponseValue → Type 0)
    → Result A Fault → Type 0
RespondsShut root operation Is (Ok r) = Is r (response_shut root operation)
RespondsShut root operation Is (Err fault) = FaultsShut root operation fault

-- a response if nothing is known of the keeper: a request that needs no state is answered as
-- always, and one that needs it is not answered with status 500
abbrev pub IsShown : Text → OperationValue → ResponseValue → Type 0
IsShown root operation shown =
    (needs_state operation ≡ false → shown ≡ response_shut root operation)
    × (needs_state operation ≡ true → shown.status ≢ 500)

-- a fault: memory ran out, or the request needs the state and the keeper is shut
abbrev pub FaultsAny : OperationValue → Fault → Option Cause → Type 0
FaultsAny operation faults.Memory cause = ⊤
FaultsAny operation faults.Device cause = (needs_state operation ≡ true) × IsSome cause
FaultsAny operation faults.Damaged cause = (needs_state operation ≡ true) × IsSome cause
FaultsAny operation faults.Reopen cause = (needs_state operation ≡ true) × IsSome cause

-- the same with a keeper of which nothing is known
abbrev pub RespondsAny : {A : Type 0} → Text → OperationValue → (A → ResponseValue → Type 0)
    → Result A Fault → Option Cause → Type 0
RespondsAny root operation Is (Ok r) cause =
    (shown : ResponseValue) × IsShown root operation shown × Is r shown
RespondsAny root operation Is (Err fault) cause = FaultsAny operation fault cause

-- ---- batches

-- whether the tag of the state is read first: for conditions, or for the serial
abbrev pub reads_tag : Wanted → Bool
reads_tag wanted = is_some wanted.conditions || wanted.numbered

-- `apply` led from the first keeper to the second with this result, after reads if the tag is read
abbrev pub AppliesBy : {K : Type 0} → Model K → (reads : Bool) → (old : K) → BatchValue
    → Result Reply Fault → (new : K) → Type 0
AppliesBy model false old b r new = model.applies old b r new
AppliesBy {K} model true old b r new = (mid : K) × ByCalls model old mid
    × model.applies mid b r new

-- `apply` was not called: no call was made, or reads if the tag is read
abbrev pub IsUncalled : {K : Type 0} → Model K → (reads : Bool) → (old new : K) → Type 0
IsUncalled model false old new = new ≡ old
IsUncalled model true old new = ByCalls model old new

-- the number of a tag or a serial is the serial of a batch that was accepted
abbrev pub IsSerialOf : Reply → ℕ → Type 0
IsSerialOf (Accepted counts serial) n = n ≡ serial
IsSerialOf (Repeated counts serial) n = ⊤
IsSerialOf (Refused refusal place) n = ⊤

-- an answer with a tag, if there are conditions
abbrev pub tagged_under : Option PreconditionsValue → ℕ → ResponseValue → ResponseValue
tagged_under None n p = p
tagged_under (Some conditions) n p = tagged n p

-- the answer with this reply to the batch of this key, with the number of the state afterwards as a
-- tag if there are conditions, and as a serial if it shows one
abbrev pub IsReplied : Wanted → Text → Reply → ResponseValue → Type 0
IsReplied wanted key reply p = (n : ℕ) × IsSerialOf reply n
    × (p ≡ with_serial wanted.numbered n (tagged_under wanted.conditions n (replied key reply)))

-- the answer that a condition does not hold, if there are conditions, with a serial if it shows one
abbrev pub IsHeldBack : Wanted → ResponseValue → Type 0
IsHeldBack wanted p = IsSome wanted.conditions × (n : ℕ)
    × (p ≡ with_serial wanted.numbered n changed)

-- a fault without a call of `apply`: memory ran out, or a read failed if the tag is read
abbrev pub MayFail : (reads : Bool) → Fault → Type 0
MayFail false fault = fault ≡ faults.Memory
MayFail true fault = ⊤

-- a batch by what the keeper returned: its reply is the response, and its fault is to be answered;
-- `uncalled` says that `apply` was not called, and then there is such a fault, or a condition does
-- not hold
abbrev pub RespondsToBatch : {A : Type 0} → Text → Wanted → (A → ResponseValue → Type 0)
    → Result A Fault → (applies : Result Reply Fault → Type 0) → (uncalled : Type 0) → Type 0
RespondsToBatch key wanted Is (Ok r) applies uncalled =
    ((reply : Reply) × (p : ResponseValue) × applies (Ok reply) × IsReplied wanted key reply p
    × Is r p)
    ⊎ ((p : ResponseValue) × uncalled × IsHeldBack wanted p × Is r p)
RespondsToBatch key wanted Is (Err fault) applies uncalled =
    applies (Err fault) ⊎ (uncalled × MayFail (reads_tag wanted) fault)

-- A request was responded to between two keepers, or this fault is to be answered: by the condition
-- of the first, by the result of `apply` if it is a batch, and over a shut keeper with what a crash
-- could leave before. `Is` says which value the result has.
pub record Responds {K A : Type 0} (model : Model K) (root : Text) (wanted : Wanted)
    (Is : A → ResponseValue → Type 0) (old new : K) (result : Result A Fault) : Type 0 where
  pub calls : ByCalls model old new
  pub in_state : model.is_clean new → (s : State) → model.represents old s
      → RespondsIn model s wanted.operation (response_to root s wanted) (state_to s wanted) Is
      old new result
  pub shut : (why : Cause) → model.cause old ≡ Some why
      → RespondsShut root wanted.operation Is result
      × (model.cause new ≡ Some why) × LeavesSame (model.may_leave old) (model.may_leave new)
  pub any : RespondsAny root wanted.operation Is result (model.cause new)
  pub to_batch : (b : BatchValue) → wanted.operation ≡ batch b
      → RespondsToBatch b.key wanted Is result
      (λ r. AppliesBy model (reads_tag wanted) old b r new)
      (IsUncalled model (reads_tag wanted) old new)

-- the same of a request whose answer has its head
abbrev pub Sends : {K : Type 0} → Model K → Text → RequestValue → (old new : K)
    → Result (Answer × Bool) Fault → Type 0
Sends model root request old new result =
    Responds model root request.wanted (IsSentFor request) old new result

-- The answer to a batch: the reply of the keeper, whatever it is, or its fault; or, if `apply` was
-- not called, that memory ran out, that a read failed or that a condition does not hold. The
-- connection closes after a fault, by its status.
pub data BatchAnswers (key : Text) (request : RequestValue) (sent : AnswerSent)
    (applies : Result Reply Fault → Type 0) (uncalled : Type 0) : Type 0 where
  by_reply : (reply : Reply) (p : ResponseValue) → applies (Ok reply)
      → IsReplied request.wanted key reply p → sent ≡ sent_as request p
      → BatchAnswers key request sent applies uncalled
  by_fault : (fault : Fault) → applies (Err fault)
      → sent ≡ sent_as request (fault_response (Keeper fault))
      → BatchAnswers key request sent applies uncalled
  by_none : (fault : Fault) → uncalled → MayFail (reads_tag request.wanted) fault
      → sent ≡ sent_as request (fault_response (Keeper fault))
      → BatchAnswers key request sent applies uncalled
  by_condition : (p : ResponseValue) → uncalled → IsHeldBack request.wanted p
      → sent ≡ sent_as request p → BatchAnswers key request sent applies uncalled

-- if the request is a batch: it is answered as the first keeper answered it, and the second is the
-- keeper after that; or `apply` was not called
abbrev pub AnswersBatch :
    {K : Type 0} (model : Model K) (request : RequestValue) (sent : AnswerSent) (old new : K)
    → Type 0
AnswersBatch model request sent old new =
    (b : BatchValue) → request.wanted.operation ≡ batch b
    → BatchAnswers b.key request sent
    (λ r. AppliesBy model (reads_tag request.wanted) old b r new)
    (IsUncalled model (reads_tag request.wanted) old new)

-- ---- a request

-- A request was answered between two keepers, the first in this condition, with this outcome: what
-- was sent is the answer, the second keeper is in the condition after it, and a crash leaves what
-- `Leaves` allows. A batch was answered by the result of `apply` between them, or the keeper was
-- never called and is as it was. If the answer is that the device failed, the store failed; and if
-- a request that needs the state is answered with status 500, the second keeper is shut.
pub record ComesOut {K : Type 0} (model : Model K) (site : SiteValue) (x : Condition)
    (request : RequestValue) (outcome : RequestOutcome) (sent : AnswerSent) (old new : K)
    : Type 0 where
  pub can : CanBe x request.wanted outcome
  pub sent_is : sent ≡ sent_as request (answer_by site x request.wanted outcome)
  pub condition : IsInCondition model new (after x request.wanted outcome)
  pub leaves : Leaves x request.wanted outcome (model.may_leave old) (model.may_leave new)
  pub batch_answered : AnswersBatch model request sent old new
  pub device : outcome ≡ device_failed → model.fails old new
  pub shuts :
      needs_state request.wanted.operation ≡ true
      → (answer_by site x request.wanted outcome).status ≡ 500 → IsSome (model.cause new)

-- the request was answered, with some outcome
abbrev pub AnswersOperation :
    {K : Type 0} (model : Model K) (site : SiteValue) (x : Condition) (request : RequestValue)
    (sent : AnswerSent) (old new : K) → Type 0
AnswersOperation model site x request sent old new =
    (outcome : RequestOutcome) × ComesOut model site x request outcome sent old new

-- a request was answered by the first keeper, this was sent for it, and the second is the keeper
-- after it
pub record Answers {K : Type 0} (model : Model K) (site : SiteValue) (request : RequestValue)
    (sent : AnswerSent) (old new : K) : Type 0 where
  pub calls : ByCalls model old new
  pub answered : model.is_clean new → (x : Condition) → IsInCondition model old x
      → AnswersOperation model site x request sent old new
  pub batch_answered : AnswersBatch model request sent old new

-- ---- broken rules

-- the answer to a request that breaks this rule of framing, or that memory ran out for it
abbrev pub RefusesBy : Text → Bool → FramingFault → Type 0
RefusesBy text bare fault = (answer : RequestFault)
    × ((answer ≡ Framing fault) ⊎ (answer ≡ Keeper faults.Memory))
    × (text ≡ response_text true bare (fault_response answer))
