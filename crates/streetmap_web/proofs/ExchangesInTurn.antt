-- Exchanges, one after the other.
use Rattle.std.proofs.Common.{◌≡◌, ◌++◌, List, [], ◌∷◌, Bool, true, false, refl, sym, subst, ap, ◌∙◌, append_assoc, append-nil}
use Rattle.std.specs.Prelude.{Option, None, Some, if◌then◌else◌}
use Rattle.streetmap_batch.specs.BatchValue.{BatchValue}
use Rattle.streetmap_ledger.specs.State.{State}
use Rattle.streetmap_ledger.specs.Batches.{after_all}
use Rattle.streetmap_ledger.specs.declared.reply.Cause.{Cause}
use Rattle.streetmap_ledger.specs.declared.reply.Fault.TheVariants.{Memory, Device}
use Rattle.streetmap_routes.specs.Operations.{OperationValue, faulty, landing_page, api_text, conformance_classes, all_collections, one_collection, page, feature, changes, service_status, batch}
use Rattle.streetmap_web.specs.Site.{SiteValue}
use Rattle.streetmap_http.specs.Preconditions.{PreconditionsValue}
use Rattle.streetmap_ledger.specs.Kept.{batch_count}
use Rattle.streetmap_web.specs.declared.verdict.Verdict.{Verdict}
use Rattle.streetmap_web.specs.declared.verdict.Verdict.TheVariants.{Holds, NotModified, Changed}
use Rattle.streetmap_web.specs.Response.{Wanted, closes_with, state_in, state_by, state_under, state_to, verdict_on}
use Rattle.streetmap_web.specs.Conditions.{Condition, RequestOutcome, of_state, shut, unknown, as_requested, no_memory, device_failed}
use Rattle.streetmap_web.specs.Conditions.{of_keeper, CanBe, answer_by, after}
use Rattle.streetmap_web.specs.Exchanges.{HttpExchange, IsExchange, GoOn, closes, condition_after, condition_after_all, all_requests, all_answers, answer_bytes, batches_of, with_batch, with_answered, lets_act, may_act, after_batches}
use Rattle.streetmap_web.proofs.Standings.{fault_closes}

pub GoOn-more : (site : SiteValue) (x : Condition) (es : List HttpExchange) (e : HttpExchange) → GoOn site x es → IsExchange site (condition_after_all x es) e
    → closes site (condition_after_all x es) e ≡ false → GoOn site x (es ++ e ∷ [])
GoOn-more site x [] e h is opens = (is, opens, tt)
GoOn-more site x (f ∷ es) e (first, stays, more) is opens = (first, stays, GoOn-more site (condition_after x f) es e more is opens)

pub requests-more : (es : List HttpExchange) (e : HttpExchange) → all_requests (es ++ e ∷ []) ≡ all_requests es ++ e.bytes
requests-more [] e = append-nil e.bytes
requests-more (f ∷ es) e = ap (λ l. f.bytes ++ l) (requests-more es e) ∙ sym (append_assoc f.bytes (all_requests es) e.bytes)

pub answers-more : (site : SiteValue) (x : Condition) (es : List HttpExchange) (e : HttpExchange)
    → all_answers site x (es ++ e ∷ []) ≡ all_answers site x es ++ answer_bytes site (condition_after_all x es) e
answers-more site x [] e = append-nil (answer_bytes site x e)
answers-more site x (f ∷ es) e =
    let y = condition_after x f in
    ap (λ l. answer_bytes site x f ++ l) (answers-more site y es e)
    ∙ sym (append_assoc (answer_bytes site x f) (all_answers site y es) (answer_bytes site (condition_after_all y es) e))

pub condition-more : (x : Condition) (es : List HttpExchange) (e : HttpExchange)
    → condition_after_all x (es ++ e ∷ []) ≡ condition_after (condition_after_all x es) e
condition-more x [] e = refl
condition-more x (f ∷ es) e = condition-more (condition_after x f) es e

-- ---- the condition after exchanges

-- the connection closes after a fault, so what leaves it open was answered as requested
open_as_requested : (site : SiteValue) (s : State) (wanted : Wanted) (requested : Bool) (o : RequestOutcome) → CanBe (of_state s) wanted o
    → closes_with requested (answer_by site (of_state s) wanted o) ≡ false → o ≡ as_requested
open_as_requested site s wanted requested as_requested can h = refl
open_as_requested site s wanted requested no_memory can h = let e : true ≡ false = fault_closes requested Memory ∙ h in cc
open_as_requested site s wanted requested device_failed can h = let e : true ≡ false = fault_closes requested Device ∙ h in cc
open_as_requested site s wanted requested (of_keeper shown) can h = absurd can

batch_acts : (s : State) (operation : OperationValue) (bs : List BatchValue) → after_all s (with_batch operation bs) ≡ after_all (state_in s operation) bs
batch_acts s (faulty fault) bs = refl
batch_acts s landing_page bs = refl
batch_acts s api_text bs = refl
batch_acts s conformance_classes bs = refl
batch_acts s all_collections bs = refl
batch_acts s (one_collection name) bs = refl
batch_acts s (page name q) bs = refl
batch_acts s (feature name id) bs = refl
batch_acts s (changes after limit) bs = refl
batch_acts s service_status bs = refl
batch_acts s (batch b) bs = refl

-- the batch acts if its verdict lets it
verdict_acts : (s : State) (operation : OperationValue) (verdict : Verdict) (bs : List BatchValue)
    → after_all s (if lets_act verdict then with_batch operation bs else bs) ≡ after_all (state_by s operation verdict) bs
verdict_acts s operation Holds bs = batch_acts s operation bs
verdict_acts s operation NotModified bs = refl
verdict_acts s operation Changed bs = refl

wanted_acts : (s : State) (operation : OperationValue) (conditions : Option PreconditionsValue) (bs : List BatchValue)
    → after_all s (if may_act s operation conditions then with_batch operation bs else bs) ≡ after_all (state_under s operation conditions) bs
wanted_acts s operation None bs = batch_acts s operation bs
wanted_acts s operation (Some p) bs = verdict_acts s operation (verdict_on (batch_count s) p operation) bs

as_requested_acts : (s : State) (wanted : Wanted) (o : RequestOutcome) (bs : List BatchValue) → o ≡ as_requested
    → after_all s (with_answered (of_state s) wanted o bs) ≡ after_all (state_to s wanted) bs
as_requested_acts s wanted o bs e = ap (λ p. after_all s (with_answered (of_state s) wanted p bs)) e ∙ wanted_acts s wanted.operation wanted.conditions bs

as_requested_after : (s : State) (wanted : Wanted) (o : RequestOutcome) → o ≡ as_requested → after (of_state s) wanted o ≡ of_state (state_to s wanted)
as_requested_after s wanted o e = ap (after (of_state s) wanted) e

-- exchanges that leave the connection open take a state to the one after their batches
states_after : (site : SiteValue) (s : State) (es : List HttpExchange) → GoOn site (of_state s) es
    → condition_after_all (of_state s) es ≡ of_state (after_all s (batches_of (of_state s) es))
states_after site s [] h = refl
states_after site s (e ∷ es) (first, opens, more) =
    let is : e.outcome ≡ as_requested = open_as_requested site s e.request.wanted e.request.closes e.outcome first.can opens in
    let next : condition_after (of_state s) e ≡ of_state (state_to s e.request.wanted) = as_requested_after s e.request.wanted e.outcome is in
    ap (λ y. condition_after_all y es) next
    ∙ states_after site (state_to s e.request.wanted) es (subst (λ y. GoOn site y es) next more)
    ∙ ap (λ y. of_state (after_all (state_to s e.request.wanted) (batches_of y es))) (sym next)
    ∙ ap of_state (sym (as_requested_acts s e.request.wanted e.outcome (batches_of (condition_after (of_state s) e) es) is))

-- a shut keeper stays shut
stays_shut : (why : Cause) (es : List HttpExchange) → condition_after_all (shut why) es ≡ shut why
stays_shut why [] = refl
stays_shut why (e ∷ es) = stays_shut why es

-- and if nothing is known of a keeper, nothing is known of it afterwards
stays_unknown : (es : List HttpExchange) → condition_after_all unknown es ≡ unknown
stays_unknown [] = refl
stays_unknown (e ∷ es) = stays_unknown es

pub batches_after : (site : SiteValue) (x : Condition) (es : List HttpExchange) → GoOn site x es → condition_after_all x es ≡ after_batches x (batches_of x es)
batches_after site (of_state s) es go_on = states_after site s es go_on
batches_after site (shut why) es go_on = stays_shut why es
batches_after site unknown es go_on = stays_unknown es
