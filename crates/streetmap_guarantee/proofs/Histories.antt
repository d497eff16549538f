-- Requests that were answered in turn, as the history of a server.
use Rattle.std.proofs.Common.{◌≡◌, ◌==◌, ℕ, List, [], ◌∷◌, ◌++◌, map, Bool, true, false, Option, None, Some, refl, sym, ap, subst, ◌∙◌, arith}
use Rattle.std.specs.Prelude.{if◌then◌else◌}
use Rattle.streetmap_http.specs.Framing.{IsRequest, Breaks, Frames, sized}
use Rattle.streetmap_http.specs.Head.{IsHead}
use Rattle.streetmap_query.specs.QueryValue.{QueryValue}
use Rattle.streetmap_batch.specs.Text.{Text}
use Rattle.streetmap_batch.specs.BatchValue.{BatchValue}
use Rattle.streetmap_ledger.specs.State.{State}
use Rattle.streetmap_ledger.specs.Batches.{act, after_all}
use Rattle.streetmap_ledger.specs.Pages.{PageValue, page_in}
use Rattle.streetmap_ledger.specs.declared.reply.Reply.{Reply}
use Rattle.streetmap_ledger.specs.declared.reply.Reply.TheVariants.{Accepted, Repeated, Refused}
use Rattle.streetmap_ledger.specs.declared.reply.Cause.TheVariants as causes
use Rattle.streetmap_ledger.specs.declared.reply.Fault.{Fault}
use Rattle.streetmap_ledger.specs.declared.reply.Fault.TheVariants.{Memory, Device, Damaged, Reopen}
use Rattle.streetmap_ledger.proofs.Acceptance.{refused_changes_nothing}
use Rattle.streetmap_routes.specs.Operations.{OperationValue, faulty, landing_page, api_text, conformance_classes, all_collections, one_collection, page, feature, changes, service_status, batch}
use Rattle.streetmap_bodies.specs.declared.request_fault.RequestFault.TheVariants.{Keeper}
use Rattle.streetmap_connections.specs.History.{Exchange}
use Rattle.streetmap_web.specs.Site.{SiteValue}
use Rattle.streetmap_http.specs.Preconditions.{PreconditionsValue}
use Rattle.streetmap_ledger.specs.Kept.{batch_count}
use Rattle.streetmap_tags.specs.Keys.{is_used}
use Rattle.streetmap_web.specs.declared.verdict.Verdict.{Verdict}
use Rattle.streetmap_web.specs.declared.verdict.Verdict.TheVariants.{Holds, NotModified, Changed}
use Rattle.streetmap_web.specs.Response.{ResponseValue, Wanted, response_in, response_shut, fault_response, state_in, state_by, state_under, state_to, response_under, needs_state, judged, read_judged, tagged, changed, verdict_on, replied, found, found_page, not_found, response_text, response_to, with_serial, shows_serial}
use Rattle.serde_json.specs.Written.{compact_text}
use Rattle.streetmap_http.specs.declared.answer_head.MediaType.TheVariants.{GeoJson}
use Rattle.streetmap_bodies.specs.Bodies.{page_data}
use Rattle.streetmap_web.proofs.Statuses.{serial_status}
use Rattle.streetmap_web.proofs.Verdicts.{used_stays, read_by, read_stays, unneeded_reads}
use Rattle.streetmap_web.specs.Conditions.{Condition, RequestOutcome, of_state, shut, as_requested, no_memory, device_failed, of_keeper, CanBe, answer_by, after}
use Rattle.streetmap_web.specs.Exchanges as web
use Rattle.streetmap_web.specs.ServedClients.{IsAnswerTo, AnsweredInTurn}
use Rattle.streetmap_web.proofs.Outcomes.{no_memory_response}
use Rattle.streetmap_guarantee.specs.Server.{Server, serving, failed, state_of}
use Rattle.streetmap_guarantee.specs.Histories as seq
use Rattle.streetmap_guarantee.specs.Histories.{Step, Event, HasRequest, IsHttp, IsSequential, with_acknowledged, acknowledged}
use Rattle.streetmap_guarantee.specs.Guarantee.{ShowsPage, tag_of}

-- ---- the server after a request

abbrev pub condition_of : Server → Condition
condition_of (serving s) = of_state s
condition_of (failed before after) = shut causes.Device

abbrev pub server_by : Server → Wanted → RequestOutcome → Server
server_by (serving s) wanted as_requested = serving (state_to s wanted)
server_by (serving s) wanted no_memory = serving s
server_by (serving s) wanted device_failed = failed s (state_to s wanted)
server_by (serving s) wanted (of_keeper shown) = serving s
server_by (failed before after) wanted outcome = failed before after

pub after_is : (y : Server) (wanted : Wanted) (outcome : RequestOutcome) → after (condition_of y) wanted outcome ≡ condition_of (server_by y wanted outcome)
after_is (serving s) wanted as_requested = refl
after_is (serving s) wanted no_memory = refl
after_is (serving s) wanted device_failed = refl
after_is (serving s) wanted (of_keeper shown) = refl
after_is (failed before after) wanted outcome = refl

abbrev pub next_server : Server → web.HttpExchange → Server
next_server y w = server_by y w.request.wanted w.outcome

abbrev pub last_server : Server → List web.HttpExchange → Server
last_server y [] = y
last_server y (w ∷ ws) = last_server (next_server y w) ws

takes_step : (site : SiteValue) (y : Server) (wanted : Wanted) (outcome : RequestOutcome) → CanBe (condition_of y) wanted outcome
    → Step site wanted (answer_by site (condition_of y) wanted outcome) y (server_by y wanted outcome)
takes_step site (serving s) wanted as_requested can = seq.answered s refl refl refl
takes_step site (serving s) wanted no_memory can = seq.out_of_memory refl refl
takes_step site (serving s) wanted device_failed can = seq.store_failed s refl can refl refl
takes_step site (serving s) wanted (of_keeper shown) can = absurd can
takes_step site (failed before after) wanted as_requested can = seq.still_failed before after refl refl refl
takes_step site (failed before after) wanted no_memory can = seq.out_of_memory refl refl
takes_step site (failed before after) wanted device_failed can = absurd can
takes_step site (failed before after) wanted (of_keeper shown) can = absurd can

-- ---- the history

abbrev pub event_of : SiteValue → Server → Exchange → web.HttpExchange → Event
event_of site y e w = record { exchange = e; request = w.request; response = web.response site (condition_of y) w }

abbrev pub history_of : SiteValue → Server → List Exchange → List web.HttpExchange → List Event
history_of site y [] ws = []
history_of site y (e ∷ es) [] = []
history_of site y (e ∷ es) (w ∷ ws) = event_of site y e w ∷ history_of site (next_server y w) es ws

-- after a request, by the state that the keeper represented
in_turn : (site : SiteValue) (y : Server) (w : web.HttpExchange) (es : List Exchange) (ws : List web.HttpExchange)
    → AnsweredInTurn site (web.condition_after (condition_of y) w) es ws → AnsweredInTurn site (condition_of (next_server y w)) es ws
in_turn site y w es ws h = subst (λ (x : Condition). AnsweredInTurn site x es ws) (after_is y w.request.wanted w.outcome) h

pub exchanges_are : (site : SiteValue) (y : Server) (es : List Exchange) (ws : List web.HttpExchange) → AnsweredInTurn site (condition_of y) es ws
    → map (λ (e : Event). e.exchange) (history_of site y es ws) ≡ es
exchanges_are site y [] ws h = refl
exchanges_are site y (e ∷ es) [] h = absurd h
exchanges_are site y (e ∷ es) (w ∷ ws) h = ap (λ (l : List Exchange). e ∷ l) (exchanges_are site (next_server y w) es ws (in_turn site y w es ws h.1))

module _ (site : SiteValue) (y : Server) (e : Exchange) (w : web.HttpExchange) (is : IsAnswerTo site (condition_of y) e w) where
  abbrev pub it : Event
  it = event_of site y e w

  requested : web.HasRequest site w → HasRequest site it
  requested (web.whole h body request says) = seq.whole h body (subst (λ (t : Text). IsRequest t h body) is.request request) says
  requested (web.broken bare fault breaks says) = seq.broken bare fault (subst (λ (t : Text). Breaks t bare fault) is.request breaks) says
  requested (web.no_room h head frames says outcome) =
      seq.no_room h (subst IsHead is.request head) (subst (λ (t : Text). Frames t (sized h)) is.request frames) says
      (ap (answer_by site (condition_of y) w.request.wanted) outcome ∙ no_memory_response site (condition_of y) w.request.wanted)

  pub is_http : IsHttp site it
  is_http = record {
    has_request = requested is.is.has_request;
    closes = is.closes;
    answers = is.text ∙ ap (λ (b : Bool). response_text b w.request.bare (web.response site (condition_of y) w)) (sym is.closes);
  }

pub is_sequential : (site : SiteValue) (y : Server) (es : List Exchange) (ws : List web.HttpExchange) → AnsweredInTurn site (condition_of y) es ws
    → IsSequential site y (history_of site y es ws) (last_server y ws)
is_sequential site y [] [] h = refl
is_sequential site y [] (w ∷ ws) h = absurd h
is_sequential site y (e ∷ es) [] h = absurd h
is_sequential site y (e ∷ es) (w ∷ ws) h = (
  is_http site y e w h.0,
  next_server y w,
  takes_step site y w.request.wanted w.outcome h.0.is.can,
  is_sequential site (next_server y w) es ws (in_turn site y w es ws h.1),
)

-- ---- what was acknowledged

-- a response of another status acknowledges nothing
not_acknowledged : (operation : OperationValue) (r : ResponseValue) (bs : List BatchValue) → (r.status == 200) ≡ false → with_acknowledged operation r bs ≡ bs
not_acknowledged (faulty fault) r bs e = refl
not_acknowledged landing_page r bs e = refl
not_acknowledged api_text r bs e = refl
not_acknowledged conformance_classes r bs e = refl
not_acknowledged all_collections r bs e = refl
not_acknowledged (one_collection name) r bs e = refl
not_acknowledged (page name q) r bs e = refl
not_acknowledged (feature name id) r bs e = refl
not_acknowledged (changes after limit) r bs e = refl
not_acknowledged service_status r bs e = refl
not_acknowledged (batch b) r bs e = ap (λ (t : Bool). if t then b ∷ bs else bs) e

fault_is_none : (fault : Fault) → ((fault_response (Keeper fault)).status == 200) ≡ false
unfolding fault_response
fault_is_none Memory = refl
fault_is_none Device = refl
fault_is_none Damaged = refl
fault_is_none Reopen = refl

changed_is_none : (changed.status == 200) ≡ false
unfolding fault_response
changed_is_none = refl

failed_is_none : (fault : Fault) (operation : OperationValue) (r : ResponseValue) (bs : List BatchValue) → r ≡ fault_response (Keeper fault) → with_acknowledged operation r bs ≡ bs
failed_is_none fault operation r bs e = not_acknowledged operation r bs (ap (λ (p : ResponseValue). p.status == 200) e ∙ fault_is_none fault)

shut_is_none : (root : Text) (operation : OperationValue) (bs : List BatchValue) → with_acknowledged operation (response_shut root operation) bs ≡ bs
shut_is_none root (faulty fault) bs = refl
shut_is_none root landing_page bs = refl
shut_is_none root api_text bs = refl
shut_is_none root conformance_classes bs = refl
shut_is_none root all_collections bs = refl
shut_is_none root (one_collection name) bs = refl
shut_is_none root (page name q) bs = refl
shut_is_none root (feature name id) bs = refl
shut_is_none root (changes after limit) bs = refl
shut_is_none root service_status bs = refl
shut_is_none root (batch b) bs = not_acknowledged (batch b) (fault_response (Keeper Reopen)) bs (fault_is_none Reopen)

-- a batch by its reply
reply_acts : (s : State) (b : BatchValue) (reply : Reply) (bs : List BatchValue) → (act s b).reply ≡ reply
    → after_all (act s b).state bs ≡ after_all s (with_acknowledged (batch b) (replied b.key reply) bs)
reply_acts s b (Accepted counts serial) bs is = refl
reply_acts s b (Repeated counts serial) bs is = refl
reply_acts s b (Refused why place) bs is = ap (λ (t : State). after_all t bs) (refused_changes_nothing s b why place is).0

answer_acts : (root : Text) (s : State) (operation : OperationValue) (bs : List BatchValue) → after_all (state_in s operation) bs ≡ after_all s (with_acknowledged operation (response_in root s operation) bs)
answer_acts root s (faulty fault) bs = refl
answer_acts root s landing_page bs = refl
answer_acts root s api_text bs = refl
answer_acts root s conformance_classes bs = refl
answer_acts root s all_collections bs = refl
answer_acts root s (one_collection name) bs = refl
answer_acts root s (page name q) bs = refl
answer_acts root s (feature name id) bs = refl
answer_acts root s (changes after limit) bs = refl
answer_acts root s service_status bs = refl
answer_acts root s (batch b) bs = reply_acts s b (act s b).reply bs refl

-- a tag acknowledges nothing more
tag_by : (n : ℕ) (b : Bool) (p : ResponseValue) → (if b then record p { tag = Some n } else p).status ≡ p.status
tag_by n true p = refl
tag_by n false p = refl

tagged_acknowledges : (b : BatchValue) (n : ℕ) (p : ResponseValue) (bs : List BatchValue) → with_acknowledged (batch b) (tagged n p) bs ≡ with_acknowledged (batch b) p bs
tagged_acknowledges b n p bs = ap (λ (status : ℕ). if status == 200 then b ∷ bs else bs) (tag_by n (p.status == 200) p)

-- a batch whose conditions do not hold
held_acts : (s : State) (b : BatchValue) (n : ℕ) (bs : List BatchValue) (used : Bool) → is_used s b.key ≡ used
    → after_all s bs ≡ after_all s (with_acknowledged (batch b) (if used then tagged n (replied b.key (act s b).reply) else changed) bs)
held_acts s b n bs true is =
    ap (λ (t : State). after_all t bs) (sym (used_stays s b is)) ∙ reply_acts s b (act s b).reply bs refl
    ∙ ap (after_all s) (sym (tagged_acknowledges b n (replied b.key (act s b).reply) bs))
held_acts s b n bs false is = ap (after_all s) (sym (not_acknowledged (batch b) changed bs changed_is_none))

judged_acts : (root : Text) (s : State) (operation : OperationValue) (verdict : Verdict) (bs : List BatchValue)
    → after_all (state_by s operation verdict) bs ≡ after_all s (with_acknowledged operation (judged root s operation verdict) bs)
judged_acts root s (faulty fault) verdict bs = ap (λ (t : State). after_all t bs) (read_by s (faulty fault) verdict refl)
judged_acts root s landing_page verdict bs = ap (λ (t : State). after_all t bs) (read_by s landing_page verdict refl)
judged_acts root s api_text verdict bs = ap (λ (t : State). after_all t bs) (read_by s api_text verdict refl)
judged_acts root s conformance_classes verdict bs = ap (λ (t : State). after_all t bs) (read_by s conformance_classes verdict refl)
judged_acts root s all_collections verdict bs = ap (λ (t : State). after_all t bs) (read_by s all_collections verdict refl)
judged_acts root s (one_collection name) verdict bs = ap (λ (t : State). after_all t bs) (read_by s (one_collection name) verdict refl)
judged_acts root s (page name q) verdict bs = ap (λ (t : State). after_all t bs) (read_by s (page name q) verdict refl)
judged_acts root s (feature name id) verdict bs = ap (λ (t : State). after_all t bs) (read_by s (feature name id) verdict refl)
judged_acts root s (changes after limit) verdict bs = ap (λ (t : State). after_all t bs) (read_by s (changes after limit) verdict refl)
judged_acts root s service_status verdict bs = ap (λ (t : State). after_all t bs) (read_by s service_status verdict refl)
judged_acts root s (batch b) Holds bs =
    reply_acts s b (act s b).reply bs refl ∙ ap (after_all s) (sym (tagged_acknowledges b (batch_count (act s b).state) (replied b.key (act s b).reply) bs))
judged_acts root s (batch b) NotModified bs = held_acts s b (batch_count s) bs (is_used s b.key) refl
judged_acts root s (batch b) Changed bs = held_acts s b (batch_count s) bs (is_used s b.key) refl

needed_acts : (root : Text) (s : State) (operation : OperationValue) (verdict : Verdict) (bs : List BatchValue) (needed : Bool) → needs_state operation ≡ needed
    → after_all (state_by s operation verdict) bs ≡ after_all s (with_acknowledged operation (if needed then judged root s operation verdict else response_in root s operation) bs)
needed_acts root s operation verdict bs true is = judged_acts root s operation verdict bs
needed_acts root s operation verdict bs false is =
    let reads = unneeded_reads operation is in
    ap (λ (t : State). after_all t bs) (read_by s operation verdict reads ∙ sym (read_stays s operation reads)) ∙ answer_acts root s operation bs

wanted_acts : (root : Text) (s : State) (operation : OperationValue) (conditions : Option PreconditionsValue) (bs : List BatchValue)
    → after_all (state_under s operation conditions) bs ≡ after_all s (with_acknowledged operation (response_under root s operation conditions) bs)
wanted_acts root s operation None bs = answer_acts root s operation bs
wanted_acts root s operation (Some p) bs = needed_acts root s operation (verdict_on (batch_count s) p operation) bs (needs_state operation) refl

-- a serial acknowledges nothing more
status_acknowledges : (operation : OperationValue) (p r : ResponseValue) (bs : List BatchValue) → p.status ≡ r.status
    → with_acknowledged operation p bs ≡ with_acknowledged operation r bs
status_acknowledges (faulty fault) p r bs e = refl
status_acknowledges landing_page p r bs e = refl
status_acknowledges api_text p r bs e = refl
status_acknowledges conformance_classes p r bs e = refl
status_acknowledges all_collections p r bs e = refl
status_acknowledges (one_collection name) p r bs e = refl
status_acknowledges (page name q) p r bs e = refl
status_acknowledges (feature name id) p r bs e = refl
status_acknowledges (changes after limit) p r bs e = refl
status_acknowledges service_status p r bs e = refl
status_acknowledges (batch b) p r bs e = ap (λ (status : ℕ). if status == 200 then b ∷ bs else bs) e

shown_acts : (root : Text) (s : State) (wanted : Wanted) (bs : List BatchValue)
    → after_all (state_to s wanted) bs ≡ after_all s (with_acknowledged wanted.operation (response_to root s wanted) bs)
shown_acts root s wanted bs =
    let under = response_under root s wanted.operation wanted.conditions in
    wanted_acts root s wanted.operation wanted.conditions bs
    ∙ ap (after_all s) (status_acknowledges wanted.operation under (response_to root s wanted) bs
    (sym (serial_status (shows_serial wanted) (batch_count (state_to s wanted)) under)))

-- one step, and the batches after it
pub step_acts : (site : SiteValue) (wanted : Wanted) (r : ResponseValue) (x y : Server) (bs : List BatchValue) → Step site wanted r x y
    → after_all (state_of y) bs ≡ after_all (state_of x) (with_acknowledged wanted.operation r bs)
step_acts site wanted r x y bs (seq.answered s was is now) =
    ap (λ (z : Server). after_all (state_of z) bs) now ∙ shown_acts site.root s wanted bs
    ∙ ap (λ (p : ResponseValue). after_all s (with_acknowledged wanted.operation p bs)) (sym is)
    ∙ ap (λ (z : Server). after_all (state_of z) (with_acknowledged wanted.operation r bs)) (sym was)
step_acts site wanted r x y bs (seq.out_of_memory is now) =
    ap (λ (z : Server). after_all (state_of z) bs) now ∙ ap (after_all (state_of x)) (sym (failed_is_none Memory wanted.operation r bs is))
step_acts site wanted r x y bs (seq.store_failed s was has_request is now) =
    ap (λ (z : Server). after_all (state_of z) bs) now ∙ ap (after_all s) (sym (failed_is_none Device wanted.operation r bs is))
    ∙ ap (λ (z : Server). after_all (state_of z) (with_acknowledged wanted.operation r bs)) (sym was)
step_acts site wanted r x y bs (seq.still_failed before after was is now) =
    ap (λ (z : Server). after_all (state_of z) bs) now
    ∙ ap (after_all (state_of x)) (sym (shut_is_none site.root wanted.operation bs))
    ∙ ap (λ (p : ResponseValue). after_all (state_of x) (with_acknowledged wanted.operation p bs)) (sym is)

pub history_acts : (site : SiteValue) (x y : Server) (es : List Event) → IsSequential site x es y → state_of y ≡ after_all (state_of x) (acknowledged es)
history_acts site x y [] h = ap state_of h
history_acts site x y (e ∷ es) h = history_acts site h.1 y es h.3 ∙ step_acts site e.request.wanted e.response x h.1 (acknowledged es) h.2

-- ---- pages

missing_is_none : not_found.status ≡ 200 → ⊥
unfolding fault_response
missing_is_none e = absurd (omega (arith, e))

-- a page without its serial
abbrev ShowsUnder : Text → State → Text → QueryValue → Option PreconditionsValue → ResponseValue → Type 0
ShowsUnder root s name q conditions response = (p : PageValue) × (page_in s name q ≡ Some p)
    × (response ≡ record (found GeoJson (compact_text (page_data root name q p))) { tag = tag_of conditions s })

found_is : (root : Text) (s : State) (name : Text) (q : QueryValue) (o : Option PageValue) → page_in s name q ≡ o → (found_page root name q o).status ≡ 200
    → ShowsUnder root s name q None (found_page root name q o)
found_is root s name q None is e = absurd (missing_is_none e)
found_is root s name q (Some p) is e = (p, is, refl)

pub changed_not_200 : changed.status ≡ 200 → ⊥
unfolding fault_response
changed_not_200 e = absurd (omega (arith, e))

missing_by : (root name : Text) (q : QueryValue) (n : ℕ) (verdict : Verdict) → (read_judged n (found_page root name q None) verdict).status ≡ 200 → ⊥
unfolding fault_response
missing_by root name q n Holds e = absurd (omega (arith, e))
missing_by root name q n NotModified e = absurd (omega (arith, e))
missing_by root name q n Changed e = absurd (omega (arith, e))

-- a page under conditions that hold, with the tag of the state
judged_is : (root : Text) (s : State) (name : Text) (q : QueryValue) (conditions : PreconditionsValue) (verdict : Verdict) (o : Option PageValue) → page_in s name q ≡ o
    → (read_judged (batch_count s) (found_page root name q o) verdict).status ≡ 200
    → ShowsUnder root s name q (Some conditions) (read_judged (batch_count s) (found_page root name q o) verdict)
unfolding fault_response
judged_is root s name q conditions verdict None is e = absurd (missing_by root name q (batch_count s) verdict e)
judged_is root s name q conditions Holds (Some p) is e = (p, is, refl)
judged_is root s name q conditions NotModified (Some p) is e = absurd (omega (arith, e))
judged_is root s name q conditions Changed (Some p) is e = absurd (changed_not_200 e)

pub not_200 : (fault : Fault) → (fault_response (Keeper fault)).status ≡ 200 → ⊥
unfolding fault_response
not_200 Memory e = absurd (omega (arith, e))
not_200 Device e = absurd (omega (arith, e))
not_200 Damaged e = absurd (omega (arith, e))
not_200 Reopen e = absurd (omega (arith, e))

status_is : (p r : ResponseValue) → p ≡ r → p.status ≡ 200 → r.status ≡ 200
status_is p r same e = subst (λ (x : ResponseValue). x.status ≡ 200) same e

page_under : (root name : Text) (q : QueryValue) (s : State) (conditions : Option PreconditionsValue) → (response_under root s (page name q) conditions).status ≡ 200
    → ShowsUnder root s name q conditions (response_under root s (page name q) conditions)
page_under root name q s None e = found_is root s name q (page_in s name q) refl e
page_under root name q s (Some p) e = judged_is root s name q p (verdict_on (batch_count s) p (page name q)) (page_in s name q) refl e

-- a page leaves the state as it is
page_kept : (s : State) (name : Text) (q : QueryValue) (conditions : Option PreconditionsValue) → state_under s (page name q) conditions ≡ s
page_kept s name q None = refl
page_kept s name q (Some p) = read_by s (page name q) (verdict_on (batch_count s) p (page name q)) refl

-- with its serial, if that is wanted
page_to : (root name : Text) (q : QueryValue) (s : State) (conditions : Option PreconditionsValue) (numbered : Bool)
    → ShowsUnder root s name q conditions (response_under root s (page name q) conditions)
    → ShowsPage root s name q (record { operation = page name q; conditions = conditions; numbered = numbered })
    (response_to root s (record { operation = page name q; conditions = conditions; numbered = numbered }))
page_to root name q s conditions false (p, is, same) = (p, is, same)
page_to root name q s conditions true (p, is, same) = (
  p,
  is,
  ap (with_serial true (batch_count (state_under s (page name q) conditions))) same
      ∙ ap (λ (t : State). with_serial true (batch_count t) (record (found GeoJson (compact_text (page_data root name q p))) { tag = tag_of conditions s }))
      (page_kept s name q conditions),
)

page_shown : (site : SiteValue) (name : Text) (q : QueryValue) (conditions : Option PreconditionsValue) (numbered : Bool) (r : ResponseValue) (x y : Server)
    → Step site (record { operation = page name q; conditions = conditions; numbered = numbered }) r x y → r.status ≡ 200
    → ShowsPage site.root (state_of x) name q (record { operation = page name q; conditions = conditions; numbered = numbered }) r
page_shown site name q conditions numbered r x y (seq.answered s was is now) e =
    let wanted : Wanted = record { operation = page name q; conditions = conditions; numbered = numbered } in
    let ok = sym (serial_status (shows_serial wanted) (batch_count (state_to s wanted)) (response_under site.root s (page name q) conditions))
    ∙ status_is r (response_to site.root s wanted) is e in
    let shown = page_to site.root name q s conditions numbered (page_under site.root name q s conditions ok) in
    subst (λ (z : Server). ShowsPage site.root (state_of z) name q wanted r) (sym was)
    (subst (λ (p : ResponseValue). ShowsPage site.root s name q wanted p) (sym is) shown)
page_shown site name q conditions numbered r x y (seq.out_of_memory is now) e = absurd (not_200 Memory (status_is r (fault_response (Keeper Memory)) is e))
page_shown site name q conditions numbered r x y (seq.store_failed s was has_request is now) e = absurd (not_200 Device (status_is r (fault_response (Keeper Device)) is e))
page_shown site name q conditions numbered r x y (seq.still_failed before after was is now) e = absurd (not_200 Reopen (status_is r (fault_response (Keeper Reopen)) is e))

pub page_of_state : (site : SiteValue) (x y : Server) (before later : List Event) (e : Event) (name : Text) (q : QueryValue)
    → IsSequential site x (before ++ e ∷ later) y → e.request.wanted.operation ≡ page name q → e.response.status ≡ 200
    → ShowsPage site.root (after_all (state_of x) (acknowledged before)) name q e.request.wanted e.response
page_of_state site x y [] later e name q h has_request ok =
    let wanted = e.request.wanted in
    page_shown site name q wanted.conditions wanted.numbered e.response x h.1
    (subst (λ (a : OperationValue). Step site (record { operation = a; conditions = wanted.conditions; numbered = wanted.numbered }) e.response x h.1) has_request h.2) ok
page_of_state site x y (f ∷ before) later e name q h has_request ok =
    subst (λ (t : State). ShowsPage site.root t name q e.request.wanted e.response)
    (step_acts site f.request.wanted f.response x h.1 (acknowledged before) h.2)
    (page_of_state site h.1 y before later e name q h.3 has_request ok)
