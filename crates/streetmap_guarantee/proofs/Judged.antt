-- What a 304 says, and what a batch under `If-Match` acts on.
use Rattle.std.proofs.Common.{◌≡◌, ◌⊎◌, inl, inr, ℕ, ◌<◌, ◌^◌, ◌==◌, [], ◌∷◌, Bool, true, false, Option, None, Some, refl, sym, subst, arith}
use Rattle.std.specs.Prelude.{if◌then◌else◌, ◌||◌, decimal}
use Rattle.std.specs.Str.{bytes_eq}
use Rattle.std.proofs.lemmas.Bool.Decides.{nat_tests}
use Rattle.std.proofs.lemmas.Fmt.{decimal_injective}
use Rattle.std.proofs.lemmas.Slice.Eq.{bytes_eq-Decides}
use Rattle.streetmap_http.specs.Tags.{number_tag}
use Rattle.streetmap_http.specs.Preconditions.{PreconditionsValue, Selection, tags, matching, matching_by, if_none_match_of}
use Rattle.streetmap_http.specs.declared.matching.Matching.{Matching}
use Rattle.streetmap_http.specs.declared.fault.FramingFault.{FramingFault}
use Rattle.streetmap_http.specs.declared.fault.FramingFault.TheVariants as framing
use Rattle.streetmap_http.specs.Faults as framing_faults
use Rattle.streetmap_batch.specs.Text.{Text}
use Rattle.streetmap_batch.specs.BatchValue.{BatchValue}
use Rattle.streetmap_batch.specs.declared.batch_fault.BatchFault.{BatchFault}
use Rattle.streetmap_batch.specs.declared.batch_fault.BatchFault.TheVariants as batch_faults
use Rattle.streetmap_query.specs.declared.fault.QueryFault.{QueryFault}
use Rattle.streetmap_query.specs.declared.fault.QueryFault.TheVariants as query_faults
use Rattle.streetmap_query.specs.QueryValue.{QueryValue}
use Rattle.streetmap_geojson.specs.FeatureValue.{FeatureValue}
use Rattle.streetmap_ledger.specs.State.{State}
use Rattle.streetmap_ledger.specs.Batches.{act}
use Rattle.streetmap_ledger.specs.Kept.{batch_count}
use Rattle.streetmap_ledger.specs.Pages.{PageValue, page_in, feature_in}
use Rattle.streetmap_ledger.specs.Summaries.{SummaryValue, summary_in}
use Rattle.streetmap_ledger.specs.declared.reply.Reply.{Reply}
use Rattle.streetmap_ledger.specs.declared.reply.Reply.TheVariants.{Accepted, Repeated, Refused}
use Rattle.streetmap_ledger.specs.declared.reply.Fault.{Fault}
use Rattle.streetmap_ledger.specs.declared.reply.Fault.TheVariants as keeper_faults
use Rattle.streetmap_routes.specs.Operations.{OperationValue, faulty, landing_page, api_text, conformance_classes, all_collections, one_collection, page, feature, changes, service_status, batch}
use Rattle.streetmap_bodies.specs.RequestFaults.{status_of, query_status, batch_status, keeper_status}
use Rattle.streetmap_bodies.specs.declared.request_fault.RequestFault.{RequestFault}
use Rattle.streetmap_bodies.specs.declared.request_fault.RequestFault.TheVariants as request_faults
use Rattle.streetmap_tags.specs.Keys.{is_used}
use Rattle.streetmap_web.specs.declared.verdict.Verdict.{Verdict}
use Rattle.streetmap_web.specs.declared.verdict.Verdict.TheVariants.{Holds, NotModified, Changed}
use Rattle.streetmap_web.specs.Response.{ResponseValue, fault_response, found_page, found_feature, found_collection, replied, response_in, needs_state, tagged, instead, not_modified, changed, verdict_by, verdict_on, read_judged, batch_judged, judged, response_under}

-- ---- no answer without conditions has status 304

framing_304 : (fault : FramingFault) → framing_faults.status_of fault ≡ 304 → ⊥
framing_304 framing.HeadTooLarge e = omega (arith, e)
framing_304 framing.BadRequest e = omega (arith, e)
framing_304 framing.TransferEncoding e = omega (arith, e)
framing_304 framing.BadLength e = omega (arith, e)
framing_304 framing.BadHost e = omega (arith, e)
framing_304 framing.BodyTooLarge e = omega (arith, e)
framing_304 framing.LengthRequired e = omega (arith, e)

query_304 : (fault : QueryFault) → query_status fault ≡ 304 → ⊥
query_304 query_faults.UnknownParameter e = omega (arith, e)
query_304 query_faults.RepeatedParameter e = omega (arith, e)
query_304 query_faults.BadLimit e = omega (arith, e)
query_304 query_faults.BadBbox e = omega (arith, e)
query_304 query_faults.BadDatetime e = omega (arith, e)
query_304 query_faults.BadAfter e = omega (arith, e)
query_304 query_faults.Memory e = omega (arith, e)

batch_304 : (fault : BatchFault) → batch_status fault ≡ 304 → ⊥
batch_304 (batch_faults.BadBatch place) e = omega (arith, e)
batch_304 batch_faults.BadKey e = omega (arith, e)
batch_304 batch_faults.TooManyEdits e = omega (arith, e)
batch_304 (batch_faults.BadFeature place cause) e = omega (arith, e)
batch_304 batch_faults.Memory e = omega (arith, e)

keeper_304 : (fault : Fault) → keeper_status fault ≡ 304 → ⊥
keeper_304 keeper_faults.Memory e = omega (arith, e)
keeper_304 keeper_faults.Device e = omega (arith, e)
keeper_304 keeper_faults.Damaged e = omega (arith, e)
keeper_304 keeper_faults.Reopen e = omega (arith, e)

status_304 : (fault : RequestFault) → status_of fault ≡ 304 → ⊥
status_304 (request_faults.Framing fault) e = framing_304 fault e
status_304 request_faults.BadTarget e = omega (arith, e)
status_304 request_faults.NotFound e = omega (arith, e)
status_304 (request_faults.MethodNotAllowed methods) e = omega (arith, e)
status_304 (request_faults.Query fault) e = query_304 fault e
status_304 request_faults.BadSerial e = omega (arith, e)
status_304 (request_faults.Batch fault) e = batch_304 fault e
status_304 (request_faults.Refused refusal place) e = omega (arith, e)
status_304 request_faults.BadCondition e = omega (arith, e)
status_304 request_faults.Changed e = omega (arith, e)
status_304 request_faults.Fenced e = omega (arith, e)
status_304 request_faults.Follower e = omega (arith, e)
status_304 (request_faults.Keeper fault) e = keeper_304 fault e

pub fault_304 : (fault : RequestFault) → (fault_response fault).status ≡ 304 → ⊥
unfolding fault_response
fault_304 fault e = status_304 fault e

page_304 : (root name : Text) (q : QueryValue) (o : Option PageValue) → (found_page root name q o).status ≡ 304 → ⊥
page_304 root name q None e = fault_304 request_faults.NotFound e
page_304 root name q (Some p) e = omega (arith, e)

feature_304 : (root name : Text) (o : Option FeatureValue) → (found_feature root name o).status ≡ 304 → ⊥
feature_304 root name None e = fault_304 request_faults.NotFound e
feature_304 root name (Some f) e = omega (arith, e)

collection_304 : (root : Text) (o : Option SummaryValue) → (found_collection root o).status ≡ 304 → ⊥
collection_304 root None e = fault_304 request_faults.NotFound e
collection_304 root (Some s) e = omega (arith, e)

reply_304 : (key : Text) (reply : Reply) → (replied key reply).status ≡ 304 → ⊥
reply_304 key (Accepted counts serial) e = omega (arith, e)
reply_304 key (Repeated counts serial) e = omega (arith, e)
reply_304 key (Refused refusal place) e = omega (arith, e)

pub response_304 : (root : Text) (s : State) (operation : OperationValue) → (response_in root s operation).status ≡ 304 → ⊥
response_304 root s (faulty fault) e = fault_304 fault e
response_304 root s landing_page e = omega (arith, e)
response_304 root s api_text e = omega (arith, e)
response_304 root s conformance_classes e = omega (arith, e)
response_304 root s all_collections e = omega (arith, e)
response_304 root s (one_collection name) e = collection_304 root (summary_in s name) e
response_304 root s (page name q) e = page_304 root name q (page_in s name q) e
response_304 root s (feature name id) e = feature_304 root name (feature_in s name id) e
response_304 root s (changes after limit) e = omega (arith, e)
response_304 root s service_status e = omega (arith, e)
response_304 root s (batch b) e = reply_304 b.key (act s b).reply e

-- ---- a batch under `If-Match` with one tag

-- the comparison of two tags of numbers
same_number : (m n : ℕ) → m < 2 ^ 64 → n < 2 ^ 64 → bytes_eq (decimal m) (decimal n) ≡ true → m ≡ n
same_number m n few below same = decimal_injective m n few below ((bytes_eq-Decides (decimal m) (decimal n)).0 same)

-- by that comparison the first condition holds or not
acts_or_not : (s : State) (b : BatchValue) (other : Matching) (same : Bool) → (batch_judged s b (verdict_by (matching_by (same || false)) other true)).status ≡ 200
    → (same ≡ true) ⊎ (is_used s b.key ≡ true)
unfolding fault_response
acts_or_not s b other true e = inl refl
acts_or_not s b other false e = inr (by_use (is_used s b.key) refl e) where
  by_use : (used : Bool) → is_used s b.key ≡ used → (if used then tagged (batch_count s) (replied b.key (act s b).reply) else changed).status ≡ 200 → is_used s b.key ≡ true
  by_use true is e = is
  by_use false is e = absurd (omega (arith, e))

pub batch_acts_on : (root : Text) (s : State) (b : BatchValue) (p : PreconditionsValue) (n : ℕ) → p.if_match ≡ tags (number_tag n ∷ [])
    → batch_count s < 2 ^ 64 → n < 2 ^ 64 → (response_under root s (batch b) (Some p)).status ≡ 200
    → (n ≡ batch_count s) ⊎ (is_used s b.key ≡ true)
batch_acts_on root s b p n is few below e =
    let m : ℕ = batch_count s in
    let other : Matching = if_none_match_of m p in
    let compared : (batch_judged s b (verdict_by (matching false m (tags (number_tag n ∷ []))) other true)).status ≡ 200 =
    subst (λ (selection : Selection). (batch_judged s b (verdict_by (matching false m selection) other true)).status ≡ 200) is e in
    elim (acts_or_not s b other (bytes_eq (decimal m) (decimal n)) compared) [
      | inl same ↦ inl (sym (same_number m n few below same))
      | inr used ↦ inr used
    ]

-- ---- a 304, and the answers with its tag

-- what a 304 says: the client has what would be answered
pub record Is304 (root : Text) (s : State) (operation : OperationValue) (r : ResponseValue) : Type 0 where
  pub is : r ≡ not_modified (batch_count s)
  pub would : (response_in root s operation).status ≡ 200

tagged_304 : (m : ℕ) (p : ResponseValue) → (p.status ≡ 304 → ⊥) → (tagged m p).status ≡ 304 → ⊥
tagged_304 m p well = by_test (p.status == 200) where
  by_test : (t : Bool) → (if t then record p { tag = Some m } else p).status ≡ 304 → ⊥
  by_test true e = well e
  by_test false e = well e

is_200 : (n : ℕ) → (n == 200) ≡ true → n ≡ 200
is_200 n e = grind (arith, nat_tests)

module _ (root : Text) (s : State) where
  instead_304 : (operation : OperationValue) → (instead (not_modified (batch_count s)) (response_in root s operation)).status ≡ 304
      → Is304 root s operation (instead (not_modified (batch_count s)) (response_in root s operation))
  instead_304 operation = by_test ((response_in root s operation).status == 200) refl where
    by_test : (t : Bool) → ((response_in root s operation).status == 200) ≡ t
        → (if t then not_modified (batch_count s) else response_in root s operation).status ≡ 304
        → Is304 root s operation (if t then not_modified (batch_count s) else response_in root s operation)
    by_test true same e = record { is = refl; would = is_200 (response_in root s operation).status same }
    by_test false same e = absurd (response_304 root s operation e)

  changed_304 : (operation : OperationValue) → (instead changed (response_in root s operation)).status ≡ 304 → ⊥
  changed_304 operation = by_test ((response_in root s operation).status == 200) where
    by_test : (t : Bool) → (if t then changed else response_in root s operation).status ≡ 304 → ⊥
    by_test true e = fault_304 request_faults.Changed e
    by_test false e = response_304 root s operation e

  read_304 : (operation : OperationValue) (verdict : Verdict) → (read_judged (batch_count s) (response_in root s operation) verdict).status ≡ 304
      → Is304 root s operation (read_judged (batch_count s) (response_in root s operation) verdict)
  read_304 operation Holds e = absurd (tagged_304 (batch_count s) (response_in root s operation) (response_304 root s operation) e)
  read_304 operation NotModified e = instead_304 operation e
  read_304 operation Changed e = absurd (changed_304 operation e)

  held_304 : (p : ResponseValue) (used : Bool) → (p.status ≡ 304 → ⊥) → (if used then tagged (batch_count s) p else changed).status ≡ 304 → ⊥
  held_304 p true well e = tagged_304 (batch_count s) p well e
  held_304 p false well e = fault_304 request_faults.Changed e

  pub batch_no_304 : (b : BatchValue) (verdict : Verdict) → (batch_judged s b verdict).status ≡ 304 → ⊥
  batch_no_304 b Holds e = tagged_304 (batch_count (act s b).state) (replied b.key (act s b).reply) (reply_304 b.key (act s b).reply) e
  batch_no_304 b NotModified e = held_304 (replied b.key (act s b).reply) (is_used s b.key) (reply_304 b.key (act s b).reply) e
  batch_no_304 b Changed e = held_304 (replied b.key (act s b).reply) (is_used s b.key) (reply_304 b.key (act s b).reply) e

  judged_304 : (operation : OperationValue) (verdict : Verdict) → (judged root s operation verdict).status ≡ 304 → Is304 root s operation (judged root s operation verdict)
  judged_304 (faulty fault) verdict e = read_304 (faulty fault) verdict e
  judged_304 landing_page verdict e = read_304 landing_page verdict e
  judged_304 api_text verdict e = read_304 api_text verdict e
  judged_304 conformance_classes verdict e = read_304 conformance_classes verdict e
  judged_304 all_collections verdict e = read_304 all_collections verdict e
  judged_304 (one_collection name) verdict e = read_304 (one_collection name) verdict e
  judged_304 (page name q) verdict e = read_304 (page name q) verdict e
  judged_304 (feature name id) verdict e = read_304 (feature name id) verdict e
  judged_304 (changes after limit) verdict e = read_304 (changes after limit) verdict e
  judged_304 service_status verdict e = read_304 service_status verdict e
  judged_304 (batch b) verdict e = absurd (batch_no_304 b verdict e)

  needed_304 : (operation : OperationValue) (verdict : Verdict) (needed : Bool)
      → (if needed then judged root s operation verdict else response_in root s operation).status ≡ 304
      → Is304 root s operation (if needed then judged root s operation verdict else response_in root s operation)
  needed_304 operation verdict true e = judged_304 operation verdict e
  needed_304 operation verdict false e = absurd (response_304 root s operation e)

  pub under_304 : (operation : OperationValue) (conditions : Option PreconditionsValue) → (response_under root s operation conditions).status ≡ 304
      → Is304 root s operation (response_under root s operation conditions)
  under_304 operation None e = absurd (response_304 root s operation e)
  under_304 operation (Some p) e = needed_304 operation (verdict_on (batch_count s) p operation) (needs_state operation) e
