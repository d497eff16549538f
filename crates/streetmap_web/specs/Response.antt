-- The answer to a request, and the state after it.
use Rattle.std.specs.Prelude.{ℕ, ◌++◌, [], Bool, true, false, ◌||◌, Option, None, Some}
use Rattle.std.specs.Prelude.{if◌then◌else◌, length, ◌==◌, ◌&&◌, not, option_map}
use Rattle.serde_json.specs.Written.{compact_text}
use Rattle.streetmap_http.specs.AnswerHead.{head_text}
use Rattle.streetmap_http.specs.declared.answer_head.AnswerHead.{AnswerHead}
use Rattle.streetmap_http.specs.declared.answer_head.MediaType.{MediaType}
use Rattle.streetmap_http.specs.declared.answer_head.MediaType.TheVariants.{Json, GeoJson, Html}
use Rattle.streetmap_http.specs.declared.answer_head.MediaType.TheVariants.{Journal}
use Rattle.streetmap_http.specs.declared.answer_head.Methods.{Methods}
use Rattle.streetmap_http.specs.declared.fault.FramingFault.{FramingFault}
use Rattle.streetmap_http.specs.Framing.{HeadValue, is_bare}
use Rattle.streetmap_http.specs.Preconditions.{PreconditionsValue, if_match_of, if_none_match_of}
use Rattle.streetmap_http.specs.Preconditions.{are_readable}
use Rattle.streetmap_http.specs.declared.matching.Matching.{Matching}
use Rattle.streetmap_http.specs.declared.matching.Matching.TheVariants.{Matches, Differs}
use Rattle.streetmap_geojson.specs.FeatureValue.{FeatureValue}
use Rattle.streetmap_query.specs.QueryValue.{QueryValue}
use Rattle.streetmap_batch.specs.Text.{Text}
use Rattle.streetmap_batch.specs.BatchValue.{BatchValue}
use Rattle.streetmap_ledger.specs.State.{State}
use Rattle.streetmap_ledger.specs.Batches.{act}
use Rattle.streetmap_ledger.specs.Kept.{batch_count, batch_in}
use Rattle.streetmap_tags.specs.Keys.{is_used}
use Rattle.streetmap_tags.specs.Changes.{changes_in}
use Rattle.streetmap_ledger.specs.Pages.{PageValue, page_in, feature_in}
use Rattle.streetmap_ledger.specs.Summaries.{SummaryValue, summary_in, summaries_in}
use Rattle.streetmap_ledger.specs.declared.reply.Reply.{Reply}
use Rattle.streetmap_ledger.specs.declared.reply.Reply.TheVariants.{Accepted, Repeated, Refused}
use Rattle.streetmap_ledger.specs.declared.reply.Fault.TheVariants.{Reopen}
use Rattle.streetmap_routes.specs.Operations.{OperationValue, faulty, landing_page, api_text}
use Rattle.streetmap_routes.specs.Operations.{conformance_classes, all_collections, one_collection}
use Rattle.streetmap_routes.specs.Operations.{page}
use Rattle.streetmap_routes.specs.Operations.{feature, changes, service_status, batch}
use Rattle.streetmap_routes.specs.Operations.{operation_with}
use Rattle.streetmap_bodies.specs.Bodies.{landing_data, api_document, conformance_data}
use Rattle.streetmap_bodies.specs.Bodies.{collections_data, collection_data, page_data}
use Rattle.streetmap_bodies.specs.Bodies.{linked_feature_data}
use Rattle.streetmap_bodies.specs.Changes.{changes_text}
use Rattle.streetmap_bodies.specs.Status.{status_data}
use Rattle.streetmap_bodies.specs.Replies.{reply_body}
use Rattle.streetmap_bodies.specs.RequestFaults.{status_of, allow_of, fault_body}
use Rattle.streetmap_bodies.specs.declared.request_fault.RequestFault.{RequestFault}
use Rattle.streetmap_bodies.specs.declared.request_fault.RequestFault.TheVariants as faults
use Rattle.streetmap_web.specs.Guards.{guarded}
use Rattle.streetmap_web.specs.Site.{SiteValue}
use Rattle.streetmap_web.specs.declared.verdict.Verdict.{Verdict}
use Rattle.streetmap_web.specs.declared.verdict.Verdict.TheVariants.{Holds, NotModified, Changed}

-- an answer without its head
pub record ResponseValue : Type 0 where
  pub status : ℕ
  pub kind : MediaType
  pub tag : Option ℕ
  pub serial : Option ℕ
  pub allow : Option Methods
  pub body : Text

-- an error
unfoldable pub fault_response : RequestFault → ResponseValue
fault_response fault = record {
  status = status_of fault;
  kind = Json;
  tag = None;
  serial = None;
  allow = allow_of fault;
  body = compact_text (fault_body fault);
}

-- a resource that exists
abbrev pub found : MediaType → Text → ResponseValue
found kind body = record {
  status = 200;
  kind = kind;
  tag = None;
  serial = None;
  allow = None;
  body = body;
}

-- no such resource exists
abbrev pub not_found : ResponseValue
not_found = fault_response faults.NotFound

-- a page, if its collection exists
abbrev pub found_page : Text → Text → QueryValue → Option PageValue → ResponseValue
found_page root name q None = not_found
found_page root name q (Some p) = found GeoJson (compact_text (page_data root name q p))

-- a feature, if it exists
abbrev pub found_feature : Text → Text → Option FeatureValue → ResponseValue
found_feature root name None = not_found
found_feature root name (Some f) = found GeoJson (compact_text (linked_feature_data root name f))

-- a collection, if it exists
abbrev pub found_collection : Text → Option SummaryValue → ResponseValue
found_collection root None = not_found
found_collection root (Some s) = found Json (compact_text (collection_data root s))

-- the status of the answer to a batch
abbrev pub reply_status : Reply → ℕ
reply_status (Accepted counts serial) = 200
reply_status (Repeated counts serial) = 200
reply_status (Refused refusal place) = 409

-- the answer to the batch of this key
abbrev pub replied : Text → Reply → ResponseValue
replied key reply = record {
  status = reply_status reply;
  kind = Json;
  tag = None;
  serial = None;
  allow = None;
  body = compact_text (reply_body key reply);
}

-- the key of the batch whose serial is that of the state, if any
abbrev pub last_key : State → Option Text
last_key s = option_map (λ b. b.0) (batch_in s (batch_count s))

-- how many collections there are
abbrev pub collection_count : State → ℕ
collection_count s = length (summaries_in s)

-- the answer in a state; root is the base of links without its last slash
abbrev pub response_in : Text → State → OperationValue → ResponseValue
response_in root s (faulty fault) = fault_response fault
response_in root s landing_page = found Json (compact_text (landing_data root))
response_in root s api_text = found Html api_document
response_in root s conformance_classes = found Json (compact_text conformance_data)
response_in root s all_collections = found Json
    (compact_text (collections_data root (summaries_in s)))
response_in root s (one_collection name) = found_collection root (summary_in s name)
response_in root s (page name q) = found_page root name q (page_in s name q)
response_in root s (feature name id) = found_feature root name (feature_in s name id)
response_in root s (changes after limit) = found Journal (changes_text (changes_in s after limit))
response_in root s service_status = found Json
    (compact_text (status_data (batch_count s) (collection_count s) (last_key s)))
response_in root s (batch b) = replied b.key (act s b).reply

-- the answer of a shut keeper: as always if the request needs no state, and else that the keeper
-- must be opened again
abbrev pub response_shut : Text → OperationValue → ResponseValue
response_shut root (faulty fault) = fault_response fault
response_shut root landing_page = found Json (compact_text (landing_data root))
response_shut root api_text = found Html api_document
response_shut root conformance_classes = found Json (compact_text conformance_data)
response_shut root all_collections = fault_response (faults.Keeper Reopen)
response_shut root (one_collection name) = fault_response (faults.Keeper Reopen)
response_shut root (page name q) = fault_response (faults.Keeper Reopen)
response_shut root (feature name id) = fault_response (faults.Keeper Reopen)
response_shut root (changes after limit) = fault_response (faults.Keeper Reopen)
response_shut root service_status = fault_response (faults.Keeper Reopen)
response_shut root (batch b) = fault_response (faults.Keeper Reopen)

-- whether the request needs the state
abbrev pub needs_state : OperationValue → Bool
needs_state (faulty fault) = false
needs_state landing_page = false
needs_state api_text = false
needs_state conformance_classes = false
needs_state all_collections = true
needs_state (one_collection name) = true
needs_state (page name q) = true
needs_state (feature name id) = true
needs_state (changes after limit) = true
needs_state service_status = true
needs_state (batch b) = true

-- the state afterwards: that after the batch, or else the same
abbrev pub state_in : State → OperationValue → State
state_in s (batch b) = (act s b).state
state_in s _ = s

-- ---- under conditions

-- what a request wants: an operation; if the service gives tags, its conditions; and whether its
-- answer shows the serial of the state
pub record Wanted : Type 0 where
  pub operation : OperationValue
  pub conditions : Option PreconditionsValue
  pub numbered : Bool

-- an operation, of a service that gives no tags and shows no serials
abbrev pub plainly : OperationValue → Wanted
plainly operation = record { operation = operation; conditions = None; numbered = false }

-- an answer of status 200, with the tag of this number
abbrev pub tagged : ℕ → ResponseValue → ResponseValue
tagged n p = if p.status == 200 then record p { tag = Some n } else p

-- in place of an answer of status 200
abbrev pub instead : ResponseValue → ResponseValue → ResponseValue
instead p other = if other.status == 200 then p else other

-- the client has what would be answered; RFC 9110, section 15.4.5
abbrev pub not_modified : ℕ → ResponseValue
not_modified n = record {
  status = 304;
  kind = Json;
  tag = Some n;
  serial = None;
  allow = None;
  body = [];
}

-- a condition does not hold; RFC 9110, section 15.5.13
abbrev pub changed : ResponseValue
changed = fault_response faults.Changed

-- whether the operation is a batch
abbrev pub is_batch : OperationValue → Bool
is_batch (batch b) = true
is_batch _ = false

-- by what `If-Match` and then `If-None-Match` say of the state's tag; RFC 9110, section 13.2.2
abbrev pub verdict_by : (one other : Matching) → (acts : Bool) → Verdict
verdict_by Differs other acts = Changed
verdict_by _ Matches true = Changed
verdict_by _ Matches false = NotModified
verdict_by _ _ acts = Holds

-- the verdict on a state of this tag
abbrev pub verdict_on : ℕ → PreconditionsValue → OperationValue → Verdict
verdict_on n p operation =
    verdict_by (if_match_of n p) (if_none_match_of n p) (is_batch operation)

-- what is answered to a read, by the verdict on this tag
abbrev pub read_judged : ℕ → ResponseValue → Verdict → ResponseValue
read_judged n p Holds = tagged n p
read_judged n p NotModified = instead (not_modified n) p
read_judged n p Changed = instead changed p

-- What is answered to a batch, by the verdict. One whose key is used is answered as ever, since it
-- changes nothing; otherwise one whose condition does not hold is not acted on.
abbrev pub batch_judged : State → BatchValue → Verdict → ResponseValue
batch_judged s b Holds = tagged (batch_count (act s b).state) (replied b.key (act s b).reply)
batch_judged s b _ =
    if is_used s b.key then tagged (batch_count s) (replied b.key (act s b).reply) else changed

-- the answer in a state, by the verdict
abbrev pub judged : Text → State → OperationValue → Verdict → ResponseValue
judged root s (batch b) verdict = batch_judged s b verdict
judged root s operation verdict =
    read_judged (batch_count s) (response_in root s operation) verdict

-- the state afterwards
abbrev pub state_by : State → OperationValue → Verdict → State
state_by s operation Holds = state_in s operation
state_by s operation _ = s

-- the answer in a state, under conditions if the service gives tags
abbrev pub response_under : Text → State → OperationValue → Option PreconditionsValue
    → ResponseValue
response_under root s operation None = response_in root s operation
response_under root s operation (Some p) =
    if needs_state operation then judged root s operation (verdict_on (batch_count s) p operation)
    else response_in root s operation

-- and the state afterwards
abbrev pub state_under : State → OperationValue → Option PreconditionsValue → State
state_under s operation None = state_in s operation
state_under s operation (Some p) =
    state_by s operation (verdict_on (batch_count s) p operation)

-- ---- with the serial of the state

-- an answer with this serial, if it shows one
abbrev pub with_serial : (numbered : Bool) → ℕ → ResponseValue → ResponseValue
with_serial numbered n p = if numbered then record p { serial = Some n } else p

-- whether the answer shows the serial of the state: if it needs the state
abbrev pub shows_serial : Wanted → Bool
shows_serial wanted = wanted.numbered && needs_state wanted.operation

-- the state after what is wanted
abbrev pub state_to : State → Wanted → State
state_to s wanted = state_under s wanted.operation wanted.conditions

-- what is answered to what is wanted, with the serial of the state afterwards if that is wanted
abbrev pub response_to : Text → State → Wanted → ResponseValue
response_to root s wanted = with_serial (shows_serial wanted) (batch_count (state_to s wanted))
    (response_under root s wanted.operation wanted.conditions)

-- whether the connection closes after an answer; the flag says whether the request closes it
abbrev pub closes_with : Bool → ResponseValue → Bool
closes_with requested p = requested || (p.status == 500 || p.status == 503)

-- the head of an answer
abbrev pub head_of : Bool → ResponseValue → AnswerHead
head_of closes p = record {
  status = p.status;
  kind = p.kind;
  len = length p.body;
  tag = p.tag;
  serial = p.serial;
  allow = p.allow;
  closes = closes;
}

-- the body that is sent: none if the answer is bare
abbrev pub body_of : Bool → Text → Text
body_of bare body = if bare then [] else body

-- the bytes of an answer, without its body if it is bare
unfoldable pub response_text : Bool → Bool → ResponseValue → Text
response_text closes bare p = head_text (head_of closes p) ++ body_of bare p.body

-- ---- what is sent for a request

-- a request: what it wants, whether it wants the connection closed, and whether its answer has
-- no body
pub record RequestValue : Type 0 where
  pub wanted : Wanted
  pub closes : Bool
  pub bare : Bool

-- under conditions that can be read, if the operation needs the state
abbrev pub readable_under : (numbered : Bool) → PreconditionsValue → OperationValue → Wanted
readable_under numbered p operation =
    if needs_state operation && not (are_readable p) then plainly (faulty faults.BadCondition)
    else record { operation = operation; conditions = Some p; numbered = numbered }

-- under conditions, if the service gives tags, and with the serial, if its answers show it
abbrev pub wanted_of : (tags numbered : Bool) → PreconditionsValue → OperationValue → Wanted
wanted_of tags numbered p operation =
    if tags then readable_under numbered p operation
    else record { operation = operation; conditions = None; numbered = numbered }

-- that of a head and a body, of a service that gives tags or not, offers these paths, and refuses
-- batches or not; a batch that is refused has no conditions; and its answers show the serial if it
-- offers the status
abbrev pub request_of : SiteValue → HeadValue → Text → RequestValue
request_of site h body = record {
  wanted = wanted_of site.tags site.offers.status h.preconditions
      (guarded site.guard h.token (operation_with site.offers h.method h.target body));
  closes = h.closes;
  bare = is_bare h.method;
}

-- one that breaks a rule of framing; the connection closes after its answer
abbrev pub broken_request : Bool → FramingFault → RequestValue
broken_request bare fault = record {
  wanted = plainly (faulty (faults.Framing fault));
  closes = true;
  bare = bare;
}

-- what was sent for a request: the bytes of the answer, and whether the connection closes after
-- them
pub record AnswerSent : Type 0 where
  pub text : Text
  pub closes : Bool

-- these two together
abbrev pub sent_so : Text → Bool → AnswerSent
sent_so text closes = record { text = text; closes = closes }

-- an answer as it is sent for a request
abbrev pub sent_as : RequestValue → ResponseValue → AnswerSent
sent_as request p =
    sent_so (response_text (closes_with request.closes p) request.bare p)
    (closes_with request.closes p)
