-- Answers that are no failure of the server.
use Rattle.std.proofs.Common.{◌≡◌, ◌∙◌, ℕ, Bool, true, false, Option, None, Some, refl, sym, subst, arith}
use Rattle.std.specs.Prelude.{if◌then◌else◌, ◌==◌}
use Rattle.streetmap_http.specs.Preconditions.{PreconditionsValue}
use Rattle.streetmap_geojson.specs.FeatureValue.{FeatureValue}
use Rattle.streetmap_query.specs.QueryValue.{QueryValue}
use Rattle.streetmap_batch.specs.Text.{Text}
use Rattle.streetmap_ledger.specs.State.{State}
use Rattle.streetmap_ledger.specs.Batches.{act}
use Rattle.streetmap_ledger.specs.Pages.{PageValue, page_in, feature_in}
use Rattle.streetmap_ledger.specs.Summaries.{SummaryValue, summary_in}
use Rattle.streetmap_ledger.specs.declared.reply.Reply.{Reply}
use Rattle.streetmap_ledger.specs.declared.reply.Reply.TheVariants.{Accepted, Repeated, Refused}
use Rattle.streetmap_ledger.specs.declared.reply.Fault.TheVariants as faults
use Rattle.streetmap_routes.specs.Operations.{OperationValue, faulty, landing_page, api_text, conformance_classes, all_collections, one_collection, page, feature, changes, service_status, batch}
use Rattle.streetmap_bodies.specs.declared.request_fault.RequestFault.TheVariants.{Keeper}
use Rattle.streetmap_batch.specs.BatchValue.{BatchValue}
use Rattle.streetmap_ledger.specs.Kept.{batch_count}
use Rattle.streetmap_tags.specs.Keys.{is_used}
use Rattle.streetmap_web.specs.declared.verdict.Verdict.{Verdict}
use Rattle.streetmap_web.specs.declared.verdict.Verdict.TheVariants.{Holds, NotModified, Changed}
use Rattle.streetmap_web.specs.Response.{ResponseValue, Wanted, tagged, instead, not_modified, changed, read_judged, batch_judged, judged, verdict_on, response_under, response_to, with_serial, shows_serial, state_to}
use Rattle.streetmap_web.specs.Judging.{in_place_by}
use Rattle.streetmap_web.specs.Response.{fault_response, found_page, found_feature, found_collection, replied, response_in, needs_state, not_found}

pub starved_well : (fault_response (Keeper faults.Memory)).status ≡ 500 → ⊥
unfolding fault_response
starved_well e = absurd (omega (arith, e))

missing_well : not_found.status ≡ 500 → ⊥
unfolding fault_response
missing_well e = absurd (omega (arith, e))

pub page_well : (root name : Text) (q : QueryValue) (o : Option PageValue) → (found_page root name q o).status ≡ 500 → ⊥
page_well root name q None e = missing_well e
page_well root name q (Some p) e = absurd (omega (arith, e))

pub feature_well : (root name : Text) (o : Option FeatureValue) → (found_feature root name o).status ≡ 500 → ⊥
feature_well root name None e = missing_well e
feature_well root name (Some f) e = absurd (omega (arith, e))

pub collection_well : (root : Text) (o : Option SummaryValue) → (found_collection root o).status ≡ 500 → ⊥
collection_well root None e = missing_well e
collection_well root (Some s) e = absurd (omega (arith, e))

pub reply_well : (key : Text) (reply : Reply) → (replied key reply).status ≡ 500 → ⊥
reply_well key (Accepted counts serial) e = absurd (omega (arith, e))
reply_well key (Repeated counts serial) e = absurd (omega (arith, e))
reply_well key (Refused refusal place) e = absurd (omega (arith, e))

-- what a state answers to a request that needs it
pub never_500 : (root : Text) (s : State) (operation : OperationValue) → needs_state operation ≡ true → (response_in root s operation).status ≡ 500 → ⊥
never_500 root s (faulty fault) has_request e = absurd (let bad : false ≡ true = has_request in cc)
never_500 root s landing_page has_request e = absurd (let bad : false ≡ true = has_request in cc)
never_500 root s api_text has_request e = absurd (let bad : false ≡ true = has_request in cc)
never_500 root s conformance_classes has_request e = absurd (let bad : false ≡ true = has_request in cc)
never_500 root s all_collections has_request e = absurd (omega (arith, e))
never_500 root s (one_collection name) has_request e = collection_well root (summary_in s name) e
never_500 root s (page name q) has_request e = page_well root name q (page_in s name q) e
never_500 root s (feature name id) has_request e = feature_well root name (feature_in s name id) e
never_500 root s (changes after limit) has_request e = absurd (omega (arith, e))
never_500 root s service_status has_request e = absurd (omega (arith, e))
never_500 root s (batch b) has_request e = reply_well b.key (act s b).reply e

-- ---- the same under conditions

pub changed_well : changed.status ≡ 500 → ⊥
unfolding fault_response
changed_well e = absurd (omega (arith, e))

tagged_by : (n : ℕ) (b : Bool) (p : ResponseValue) → (p.status ≡ 500 → ⊥) → (if b then record p { tag = Some n } else p).status ≡ 500 → ⊥
tagged_by n true p well e = well e
tagged_by n false p well e = well e

pub tagged_well : (n : ℕ) (p : ResponseValue) → (p.status ≡ 500 → ⊥) → (tagged n p).status ≡ 500 → ⊥
tagged_well n p well e = tagged_by n (p.status == 200) p well e

instead_by : (b : Bool) (p other : ResponseValue) → (p.status ≡ 500 → ⊥) → (other.status ≡ 500 → ⊥) → (if b then p else other).status ≡ 500 → ⊥
instead_by true p other one two e = one e
instead_by false p other one two e = two e

pub instead_well : (p other : ResponseValue) → (p.status ≡ 500 → ⊥) → (other.status ≡ 500 → ⊥) → (instead p other).status ≡ 500 → ⊥
instead_well p other one two e = instead_by (other.status == 200) p other one two e

modified_well : (n : ℕ) → (not_modified n).status ≡ 500 → ⊥
modified_well n e = absurd (omega (arith, e))

pub in_place_well : (n : ℕ) (verdict : Verdict) → (in_place_by n verdict).status ≡ 500 → ⊥
in_place_well n Holds e = changed_well e
in_place_well n NotModified e = modified_well n e
in_place_well n Changed e = changed_well e

read_well : (n : ℕ) (p : ResponseValue) (verdict : Verdict) → (p.status ≡ 500 → ⊥) → (read_judged n p verdict).status ≡ 500 → ⊥
read_well n p Holds well e = tagged_well n p well e
read_well n p NotModified well e = instead_well (not_modified n) p (modified_well n) well e
read_well n p Changed well e = instead_well changed p changed_well well e

held_well : (b : Bool) (p : ResponseValue) → (p.status ≡ 500 → ⊥) → (if b then p else changed).status ≡ 500 → ⊥
held_well true p well e = well e
held_well false p well e = changed_well e

batch_well : (s : State) (b : BatchValue) (verdict : Verdict) → (batch_judged s b verdict).status ≡ 500 → ⊥
batch_well s b Holds e = tagged_well (batch_count (act s b).state) (replied b.key (act s b).reply) (reply_well b.key (act s b).reply) e
batch_well s b NotModified e = held_well (is_used s b.key) _ (tagged_well (batch_count s) (replied b.key (act s b).reply) (reply_well b.key (act s b).reply)) e
batch_well s b Changed e = held_well (is_used s b.key) _ (tagged_well (batch_count s) (replied b.key (act s b).reply) (reply_well b.key (act s b).reply)) e

judged_well : (root : Text) (s : State) (operation : OperationValue) (verdict : Verdict) → needs_state operation ≡ true → (judged root s operation verdict).status ≡ 500 → ⊥
judged_well root s (faulty fault) verdict has_request e = absurd (let bad : false ≡ true = has_request in cc)
judged_well root s landing_page verdict has_request e = absurd (let bad : false ≡ true = has_request in cc)
judged_well root s api_text verdict has_request e = absurd (let bad : false ≡ true = has_request in cc)
judged_well root s conformance_classes verdict has_request e = absurd (let bad : false ≡ true = has_request in cc)
judged_well root s all_collections verdict has_request e = read_well (batch_count s) (response_in root s all_collections) verdict (never_500 root s all_collections refl) e
judged_well root s (one_collection name) verdict has_request e = read_well (batch_count s) (response_in root s (one_collection name)) verdict (never_500 root s (one_collection name) refl) e
judged_well root s (page name q) verdict has_request e = read_well (batch_count s) (response_in root s (page name q)) verdict (never_500 root s (page name q) refl) e
judged_well root s (feature name id) verdict has_request e = read_well (batch_count s) (response_in root s (feature name id)) verdict (never_500 root s (feature name id) refl) e
judged_well root s (changes after limit) verdict has_request e = read_well (batch_count s) (response_in root s (changes after limit)) verdict (never_500 root s (changes after limit) refl) e
judged_well root s service_status verdict has_request e = read_well (batch_count s) (response_in root s service_status) verdict (never_500 root s service_status refl) e
judged_well root s (batch b) verdict has_request e = batch_well s b verdict e

under_well : (root : Text) (s : State) (operation : OperationValue) (conditions : Option PreconditionsValue) → needs_state operation ≡ true
    → (response_under root s operation conditions).status ≡ 500 → ⊥
under_well root s operation None has_request e = never_500 root s operation has_request e
under_well root s operation (Some p) has_request e =
    let verdict = verdict_on (batch_count s) p operation in
    judged_well root s operation verdict has_request
    (subst (λ (b : Bool). (if b then judged root s operation verdict else response_in root s operation).status ≡ 500) has_request e)

-- a serial changes no status
pub serial_status : (numbered : Bool) (n : ℕ) (p : ResponseValue) → (with_serial numbered n p).status ≡ p.status
serial_status true n p = refl
serial_status false n p = refl

-- what a state answers to what needs it
pub wanted_never_500 : (root : Text) (s : State) (wanted : Wanted) → needs_state wanted.operation ≡ true → (response_to root s wanted).status ≡ 500 → ⊥
wanted_never_500 root s wanted has_request e =
    let same = serial_status (shows_serial wanted) (batch_count (state_to s wanted)) (response_under root s wanted.operation wanted.conditions) in
    under_well root s wanted.operation wanted.conditions has_request (sym same ∙ e)
