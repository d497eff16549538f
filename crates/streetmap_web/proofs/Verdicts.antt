-- Tags, and what verdicts on them let happen.
use Rattle.std.proofs.Common.{◌≡◌, ℕ, ◌+◌, true, false, cond, Option, None, Some, Result, Ok, Err, IfOk, refl, ap, ◌∙◌, nat_lt, nat_eq}
use Rattle.std.specs.Option.{is_some, option_map}
use Rattle.std.specs.Cmp.Lexicographic.{pointwise, nat_list_cmp_total}
use Rattle.std.specs.FinMap.{get, len, insert, values, contains_key, len-insert}
use Rattle.streetmap_batch.specs.Text.{Text}
use Rattle.streetmap_batch.specs.BatchValue.{BatchValue}
use Rattle.streetmap_batch.specs.BatchText.{batch_text}
use Rattle.streetmap_query.specs.QueryValue.{QueryValue}
use Rattle.streetmap_ledger.specs.State.{State, Collection, AcceptedBatch}
use Rattle.streetmap_ledger.specs.Batches.{Outcome, edited, fresh, by_key, kept_for, act, most_batches}
use Rattle.streetmap_ledger.specs.Kept.{batch_count}
use Rattle.streetmap_ledger.specs.Pages.{page_over}
use Rattle.streetmap_ledger.specs.Summaries.{summary_of}
use Rattle.streetmap_ledger.specs.declared.reply.Refusal.{Refusal}
use Rattle.streetmap_ledger.specs.declared.reply.Reply.{Reply}
use Rattle.streetmap_ledger.specs.declared.reply.Reply.TheVariants.{Accepted, Repeated, Refused}
use Rattle.streetmap_ledger.specs.declared.reply.Fault.TheVariants as faults
use Rattle.streetmap_ledger.proofs.Repeat.{either, edited_keys}
use Rattle.streetmap_routes.specs.Operations.{OperationValue, faulty, landing_page, api_text, conformance_classes, all_collections, one_collection, page, feature, changes, service_status, batch}
use Rattle.streetmap_bodies.specs.declared.request_fault.RequestFault.TheVariants.{Keeper}
use Rattle.streetmap_tags.specs.Keys.{is_used}
use Rattle.streetmap_web.specs.Response.{ResponseValue, instead, is_batch, needs_state, judged, read_judged, state_by, state_in, response_in, response_shut, fault_response, found_page, found_collection}
use Rattle.streetmap_web.specs.Judging.{tag_after, probe}
use Rattle.streetmap_web.specs.Responds.{IsSerialOf}
use Rattle.streetmap_web.specs.declared.verdict.Verdict.{Verdict}
use Rattle.streetmap_web.specs.declared.verdict.Verdict.TheVariants.{Holds, NotModified, Changed}

-- ---- the tag after a batch

abbrev HasTag : State → Outcome → Type 0
HasTag s it = batch_count it.state ≡ tag_after (batch_count s) it.reply

pub new_key : (s t : State) (b : BatchValue) (kept : AcceptedBatch) → t.keys ≡ s.keys → get s.keys b.key ≡ None
    → len (insert t.keys b.key kept) ≡ len s.keys + 1
new_key s t b kept same none =
    let absent : contains_key t.keys b.key ≡ false = ap (λ m. is_some (get m b.key)) same ∙ ap is_some none in
    len-insert nat_list_cmp_total t.keys b.key kept
    ∙ ap (λ c. cond c (len t.keys) (len t.keys + 1)) absent
    ∙ ap (λ m. len m + 1) same

tag_if_fresh : (s : State) (b : BatchValue) → get s.keys b.key ≡ None → (r : Result State (ℕ × Refusal)) → IfOk r (λ t. t.keys ≡ s.keys)
    → HasTag s (fresh s b (len s.keys + 1) r)
tag_if_fresh s b none (Ok t) same = new_key s t b (kept_for b (len s.keys + 1)) same none
tag_if_fresh s b none (Err e) same = refl

tag_by_key : (s : State) (b : BatchValue) (o : Option AcceptedBatch) → get s.keys b.key ≡ o → HasTag s (by_key s b o)
tag_by_key s b (Some kept) is = either (HasTag s) (pointwise nat_eq kept.text (batch_text b)) _ _ refl refl
tag_by_key s b None is =
    either (HasTag s) (nat_lt (len s.keys) most_batches) _ _ (tag_if_fresh s b is (edited 1 s b.edits) (edited_keys 1 s b.edits)) refl

pub tag_kept : (s : State) (b : BatchValue) → batch_count (act s b).state ≡ tag_after (batch_count s) (act s b).reply
tag_kept s b = tag_by_key s b (get s.keys b.key) refl

-- the tag of an accepted batch is its serial
pub serial_of : (n : ℕ) (reply : Reply) → IsSerialOf reply (tag_after n reply)
serial_of n (Accepted counts serial) = refl
serial_of n (Repeated counts serial) = tt
serial_of n (Refused refusal place) = tt

-- ---- a key that was used

stays_by_key : (s : State) (b : BatchValue) (o : Option AcceptedBatch) → is_some o ≡ true → (by_key s b o).state ≡ s
stays_by_key s b (Some kept) used = either (λ (it : Outcome). it.state ≡ s) (pointwise nat_eq kept.text (batch_text b)) _ _ refl refl
stays_by_key s b None used = cc

-- a batch whose key was used changes nothing
pub used_stays : (s : State) (b : BatchValue) → is_used s b.key ≡ true → (act s b).state ≡ s
used_stays s b used = stays_by_key s b (get s.keys b.key) used

-- ---- reads

pub read_stays : (s : State) (operation : OperationValue) → is_batch operation ≡ false → state_in s operation ≡ s
read_stays s (faulty fault) read = refl
read_stays s landing_page read = refl
read_stays s api_text read = refl
read_stays s conformance_classes read = refl
read_stays s all_collections read = refl
read_stays s (one_collection name) read = refl
read_stays s (page name q) read = refl
read_stays s (feature name id) read = refl
read_stays s (changes after limit) read = refl
read_stays s service_status read = refl
read_stays s (batch b) read = cc

pub read_by : (s : State) (operation : OperationValue) (verdict : Verdict) → is_batch operation ≡ false → state_by s operation verdict ≡ s
read_by s operation Holds read = read_stays s operation read
read_by s operation NotModified read = refl
read_by s operation Changed read = refl

pub read_is_judged : (root : Text) (s : State) (operation : OperationValue) (verdict : Verdict) → is_batch operation ≡ false
    → judged root s operation verdict ≡ read_judged (batch_count s) (response_in root s operation) verdict
read_is_judged root s (faulty fault) verdict read = refl
read_is_judged root s landing_page verdict read = refl
read_is_judged root s api_text verdict read = refl
read_is_judged root s conformance_classes verdict read = refl
read_is_judged root s all_collections verdict read = refl
read_is_judged root s (one_collection name) verdict read = refl
read_is_judged root s (page name q) verdict read = refl
read_is_judged root s (feature name id) verdict read = refl
read_is_judged root s (changes after limit) verdict read = refl
read_is_judged root s service_status verdict read = refl
read_is_judged root s (batch b) verdict read = cc

-- the collection of a page is there if the page is
page_probed : (root name : Text) (q : QueryValue) (p : ResponseValue) (o : Option Collection)
    → instead p (found_collection root (option_map (summary_of name) o))
    ≡ instead p (found_page root name q (option_map (λ (c : Collection). page_over q (values c.features)) o))
page_probed root name q p None = refl
page_probed root name q p (Some c) = refl

-- what takes the place of an answer of status 200 takes that of its probe
pub probe_same : (root : Text) (s : State) (operation : OperationValue) (p : ResponseValue)
    → instead p (response_in root s (probe operation)) ≡ instead p (response_in root s operation)
probe_same root s (faulty fault) p = refl
probe_same root s landing_page p = refl
probe_same root s api_text p = refl
probe_same root s conformance_classes p = refl
probe_same root s all_collections p = refl
probe_same root s (one_collection name) p = refl
probe_same root s (page name q) p = page_probed root name q p (get s.collections name)
probe_same root s (feature name id) p = refl
probe_same root s (changes after limit) p = refl
probe_same root s service_status p = refl
probe_same root s (batch b) p = refl

pub probe_needs : (operation : OperationValue) → needs_state (probe operation) ≡ needs_state operation
probe_needs (faulty fault) = refl
probe_needs landing_page = refl
probe_needs api_text = refl
probe_needs conformance_classes = refl
probe_needs all_collections = refl
probe_needs (one_collection name) = refl
probe_needs (page name q) = refl
probe_needs (feature name id) = refl
probe_needs (changes after limit) = refl
probe_needs service_status = refl
probe_needs (batch b) = refl

pub probe_reads : (operation : OperationValue) → is_batch operation ≡ false → is_batch (probe operation) ≡ false
probe_reads (faulty fault) read = refl
probe_reads landing_page read = refl
probe_reads api_text read = refl
probe_reads conformance_classes read = refl
probe_reads all_collections read = refl
probe_reads (one_collection name) read = refl
probe_reads (page name q) read = refl
probe_reads (feature name id) read = refl
probe_reads (changes after limit) read = refl
probe_reads service_status read = refl
probe_reads (batch b) read = read

-- ---- requests that need the state

pub needed_shut : (root : Text) (operation : OperationValue) → needs_state operation ≡ true → response_shut root operation ≡ fault_response (Keeper faults.Reopen)
needed_shut root (faulty fault) needed = cc
needed_shut root landing_page needed = cc
needed_shut root api_text needed = cc
needed_shut root conformance_classes needed = cc
needed_shut root all_collections needed = refl
needed_shut root (one_collection name) needed = refl
needed_shut root (page name q) needed = refl
needed_shut root (feature name id) needed = refl
needed_shut root (changes after limit) needed = refl
needed_shut root service_status needed = refl
needed_shut root (batch b) needed = refl

-- one that needs none reads
pub unneeded_reads : (operation : OperationValue) → needs_state operation ≡ false → is_batch operation ≡ false
unneeded_reads (faulty fault) unneeded = refl
unneeded_reads landing_page unneeded = refl
unneeded_reads api_text unneeded = refl
unneeded_reads conformance_classes unneeded = refl
unneeded_reads all_collections unneeded = cc
unneeded_reads (one_collection name) unneeded = cc
unneeded_reads (page name q) unneeded = cc
unneeded_reads (feature name id) unneeded = cc
unneeded_reads (changes after limit) unneeded = cc
unneeded_reads service_status unneeded = cc
unneeded_reads (batch b) unneeded = cc
