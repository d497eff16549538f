-- Tags of a history, and the states that they name.
use Rattle.std.proofs.Common.{◌≡◌, ◌⊎◌, inl, inr, ℕ, ◌+◌, ◌<◌, ◌≤◌, ◌^◌, ◌==◌, List, [], ◌∷◌, ◌++◌, Bool, true, false, Option, None, Some, Result, Ok, Err, IfOk, refl, sym, ap, subst, ◌∙◌, nat_lt, nat_eq, arith}
use Rattle.std.specs.Prelude.{if◌then◌else◌}
use Rattle.std.specs.Cmp.Lexicographic.{pointwise}
use Rattle.std.specs.FinMap.{get, len}
use Rattle.streetmap_http.specs.Tags.{number_tag}
use Rattle.streetmap_http.specs.Preconditions.{PreconditionsValue, tags}
use Rattle.streetmap_batch.specs.Text.{Text}
use Rattle.streetmap_batch.specs.BatchValue.{BatchValue}
use Rattle.streetmap_batch.specs.BatchText.{batch_text}
use Rattle.streetmap_ledger.specs.State.{State, AcceptedBatch}
use Rattle.streetmap_ledger.specs.Batches.{Outcome, edited, fresh, by_key, kept_for, act, after_all, most_batches}
use Rattle.streetmap_ledger.specs.Kept.{batch_count}
use Rattle.streetmap_ledger.specs.declared.reply.Refusal.{Refusal}
use Rattle.streetmap_ledger.specs.declared.reply.Fault.{Fault}
use Rattle.streetmap_ledger.specs.declared.reply.Fault.TheVariants.{Memory, Device, Reopen}
use Rattle.streetmap_ledger.proofs.Repeat.{either, edited_keys}
use Rattle.streetmap_routes.specs.Operations.{OperationValue, faulty, landing_page, api_text, conformance_classes, all_collections, one_collection, page, feature, changes, service_status, batch}
use Rattle.streetmap_bodies.specs.declared.request_fault.RequestFault.TheVariants.{Keeper}
use Rattle.streetmap_tags.specs.Keys.{is_used}
use Rattle.streetmap_web.specs.Site.{SiteValue}
use Rattle.streetmap_web.specs.declared.verdict.Verdict.{Verdict}
use Rattle.streetmap_web.specs.declared.verdict.Verdict.TheVariants.{Holds, NotModified, Changed}
use Rattle.streetmap_web.specs.Response.{ResponseValue, Wanted, fault_response, replied, response_in, response_shut, needs_state, tagged, instead, not_modified, changed, is_batch, verdict_on, read_judged, judged, state_by, response_under, state_under, response_to, state_to, with_serial, shows_serial}
use Rattle.streetmap_web.proofs.Verdicts.{new_key, read_stays, read_by, read_is_judged}
use Rattle.streetmap_web.proofs.Untagged.{untagged_fault, untagged, untagged_shut, no_tag, serial_tag}
use Rattle.streetmap_web.proofs.Statuses.{serial_status}
use Rattle.streetmap_guarantee.specs.Server.{Server, serving, state_of}
use Rattle.streetmap_guarantee.specs.Histories as seq
use Rattle.streetmap_guarantee.specs.Histories.{Step, Event, IsSequential, with_acknowledged, acknowledged}
use Rattle.streetmap_guarantee.specs.Tagging.{Happens, state_after, OneTagOneState, NotModifiedIsTheSame, NoLostChange}
use Rattle.streetmap_guarantee.proofs.Restarts.{after_append}
use Rattle.streetmap_guarantee.proofs.Histories.{step_acts, not_200, changed_not_200}
use Rattle.streetmap_guarantee.proofs.Judged.{batch_acts_on, fault_304, response_304, batch_no_304, under_304}

-- ---- the number of batches never falls, and if it stays the state does

abbrev Grows : State → Outcome → Type 0
Grows s it = (it.state ≡ s) ⊎ (batch_count it.state ≡ batch_count s + 1)

grows_if_fresh : (s : State) (b : BatchValue) → get s.keys b.key ≡ None → (r : Result State (ℕ × Refusal)) → IfOk r (λ t. t.keys ≡ s.keys)
    → Grows s (fresh s b (len s.keys + 1) r)
grows_if_fresh s b none (Ok t) same = inr (new_key s t b (kept_for b (len s.keys + 1)) same none)
grows_if_fresh s b none (Err e) same = inl refl

grows_by_key : (s : State) (b : BatchValue) (o : Option AcceptedBatch) → get s.keys b.key ≡ o → Grows s (by_key s b o)
grows_by_key s b (Some kept) is = either (Grows s) (pointwise nat_eq kept.text (batch_text b)) _ _ (inl refl) (inl refl)
grows_by_key s b None is =
    either (Grows s) (nat_lt (len s.keys) most_batches) _ _ (grows_if_fresh s b is (edited 1 s b.edits) (edited_keys 1 s b.edits)) (inl refl)

act_grows : (s : State) (b : BatchValue) → Grows s (act s b)
act_grows s b = grows_by_key s b (get s.keys b.key) refl

pub record Grow (s t : State) : Type 0 where
  pub more : batch_count s ≤ batch_count t
  pub stays : batch_count t ≡ batch_count s → t ≡ s

pub all_grow : (s : State) (bs : List BatchValue) → Grow s (after_all s bs)
all_grow s [] = record { more = omega arith; stays = λ e. refl }
all_grow s (b ∷ bs) = elim (act_grows s b) [
  | inl same ↦ subst (λ (t : State). Grow s (after_all t bs)) (sym same) (all_grow s bs)
  | inr one_more ↦
      let rest = all_grow (act s b).state bs in
      let above : batch_count s + 1 ≤ batch_count (after_all (act s b).state bs) = omega (arith, rest.more, one_more) in
      record { more = omega arith; stays = λ e. absurd (omega (arith, above, e)) }
]

-- ---- what was acknowledged in parts of a history

acknowledged_first : (operation : OperationValue) (r : ResponseValue) (bs cs : List BatchValue)
    → with_acknowledged operation r (bs ++ cs) ≡ with_acknowledged operation r bs ++ cs
acknowledged_first (faulty fault) r bs cs = refl
acknowledged_first landing_page r bs cs = refl
acknowledged_first api_text r bs cs = refl
acknowledged_first conformance_classes r bs cs = refl
acknowledged_first all_collections r bs cs = refl
acknowledged_first (one_collection name) r bs cs = refl
acknowledged_first (page name q) r bs cs = refl
acknowledged_first (feature name id) r bs cs = refl
acknowledged_first (changes after limit) r bs cs = refl
acknowledged_first service_status r bs cs = refl
acknowledged_first (batch b) r bs cs = by_test (r.status == 200) where
  by_test : (t : Bool) → (if t then b ∷ (bs ++ cs) else bs ++ cs) ≡ (if t then b ∷ bs else bs) ++ cs
  by_test true = refl
  by_test false = refl

acknowledged_append : (es fs : List Event) → acknowledged (es ++ fs) ≡ acknowledged es ++ acknowledged fs
acknowledged_append [] fs = refl
acknowledged_append (e ∷ es) fs =
    ap (with_acknowledged e.request.wanted.operation e.response) (acknowledged_append es fs)
    ∙ acknowledged_first e.request.wanted.operation e.response (acknowledged es) (acknowledged fs)

pub state_append : (s : State) (es fs : List Event) → state_after s (es ++ fs) ≡ after_all (state_after s es) (acknowledged fs)
state_append s es fs = ap (after_all s) (acknowledged_append es fs) ∙ after_append s (acknowledged es) (acknowledged fs)

-- ---- the server at an event

record At (site : SiteValue) (x : Server) (before : List Event) (e : Event) : Type 0 where
  old : Server
  new : Server
  step : Step site e.request.wanted e.response old new
  from : state_of old ≡ after_all (state_of x) (acknowledged before)
  to : state_of new ≡ after_all (state_of x) (acknowledged (before ++ e ∷ []))

event_at : (site : SiteValue) (x y : Server) (before later : List Event) (e : Event) → IsSequential site x (before ++ e ∷ later) y → At site x before e
event_at site x y [] later e h = record {
  old = x;
  new = h.1;
  step = h.2;
  from = refl;
  to = step_acts site e.request.wanted e.response x h.1 [] h.2;
}
event_at site x y (f ∷ before) later e h =
    let it = event_at site h.1 y before later e h.3 in
    record {
      old = it.old;
      new = it.new;
      step = it.step;
      from = it.from ∙ step_acts site f.request.wanted f.response x h.1 (acknowledged before) h.2;
      to = it.to ∙ step_acts site f.request.wanted f.response x h.1 (acknowledged (before ++ e ∷ [])) h.2;
    }

-- ---- tags of answers

-- a response has no tag, or this one
abbrev HasTag : ℕ → ResponseValue → Type 0
HasTag m r = (n : ℕ) → r.tag ≡ Some n → n ≡ m

tagged_has : (m : ℕ) (p : ResponseValue) → p.tag ≡ None → HasTag m (tagged m p)
tagged_has m p none n = by_test (p.status == 200) where
  by_test : (t : Bool) → (if t then record p { tag = Some m } else p).tag ≡ Some n → n ≡ m
  by_test true e = cc
  by_test false e = no_tag p.tag n none e

instead_has : (m : ℕ) (q p : ResponseValue) → HasTag m q → p.tag ≡ None → HasTag m (instead q p)
instead_has m q p has none n = by_test (p.status == 200) where
  by_test : (t : Bool) → (if t then q else p).tag ≡ Some n → n ≡ m
  by_test true e = has n e
  by_test false e = no_tag p.tag n none e

changed_has : (m : ℕ) → HasTag m changed
changed_has m n e = no_tag changed.tag n (untagged_fault _) e

modified_has : (m : ℕ) → HasTag m (not_modified m)
modified_has m n e = cc

read_has : (m : ℕ) (p : ResponseValue) (verdict : Verdict) → p.tag ≡ None → HasTag m (read_judged m p verdict)
read_has m p Holds none = tagged_has m p none
read_has m p NotModified none = instead_has m (not_modified m) p (modified_has m) none
read_has m p Changed none = instead_has m changed p (changed_has m) none

held_has : (m : ℕ) (p : ResponseValue) (used : Bool) → p.tag ≡ None → HasTag m (if used then tagged m p else changed)
held_has m p true none = tagged_has m p none
held_has m p false none = changed_has m

module _ (root : Text) (s : State) where
  reads_have : (operation : OperationValue) (verdict : Verdict) → is_batch operation ≡ false → HasTag (batch_count s) (read_judged (batch_count s) (response_in root s operation) verdict)
      → HasTag (batch_count (state_by s operation verdict)) (read_judged (batch_count s) (response_in root s operation) verdict)
  reads_have operation verdict reads has n e = has n e ∙ ap batch_count (sym (read_by s operation verdict reads))

  judged_has : (operation : OperationValue) (verdict : Verdict) → HasTag (batch_count (state_by s operation verdict)) (judged root s operation verdict)
  judged_has (faulty fault) verdict = reads_have (faulty fault) verdict refl (read_has (batch_count s) (response_in root s (faulty fault)) verdict (untagged root s (faulty fault)))
  judged_has landing_page verdict = reads_have landing_page verdict refl (read_has (batch_count s) (response_in root s landing_page) verdict (untagged root s landing_page))
  judged_has api_text verdict = reads_have api_text verdict refl (read_has (batch_count s) (response_in root s api_text) verdict (untagged root s api_text))
  judged_has conformance_classes verdict = reads_have conformance_classes verdict refl (read_has (batch_count s) (response_in root s conformance_classes) verdict (untagged root s conformance_classes))
  judged_has all_collections verdict = reads_have all_collections verdict refl (read_has (batch_count s) (response_in root s all_collections) verdict (untagged root s all_collections))
  judged_has (one_collection name) verdict = reads_have (one_collection name) verdict refl (read_has (batch_count s) (response_in root s (one_collection name)) verdict (untagged root s (one_collection name)))
  judged_has (page name q) verdict = reads_have (page name q) verdict refl (read_has (batch_count s) (response_in root s (page name q)) verdict (untagged root s (page name q)))
  judged_has (feature name id) verdict = reads_have (feature name id) verdict refl (read_has (batch_count s) (response_in root s (feature name id)) verdict (untagged root s (feature name id)))
  judged_has (changes after limit) verdict = reads_have (changes after limit) verdict refl (read_has (batch_count s) (response_in root s (changes after limit)) verdict (untagged root s (changes after limit)))
  judged_has service_status verdict = reads_have service_status verdict refl (read_has (batch_count s) (response_in root s service_status) verdict (untagged root s service_status))
  judged_has (batch b) Holds = tagged_has (batch_count (act s b).state) (replied b.key (act s b).reply) refl
  judged_has (batch b) NotModified = held_has (batch_count s) (replied b.key (act s b).reply) (is_used s b.key) refl
  judged_has (batch b) Changed = held_has (batch_count s) (replied b.key (act s b).reply) (is_used s b.key) refl

  needed_has : (operation : OperationValue) (verdict : Verdict) (needed : Bool)
      → HasTag (batch_count (state_by s operation verdict)) (if needed then judged root s operation verdict else response_in root s operation)
  needed_has operation verdict true n e = judged_has operation verdict n e
  needed_has operation verdict false n e = no_tag _ n (untagged root s operation) e

  under_has : (operation : OperationValue) (conditions : Option PreconditionsValue) → HasTag (batch_count (state_under s operation conditions)) (response_under root s operation conditions)
  under_has operation None n e = no_tag _ n (untagged root s operation) e
  under_has operation (Some p) n e = needed_has operation (verdict_on (batch_count s) p operation) (needs_state operation) n e

-- the tag of an answer is that of the state after its request
step_tag : (site : SiteValue) (wanted : Wanted) (r : ResponseValue) (x y : Server) (n : ℕ) → Step site wanted r x y → r.tag ≡ Some n → n ≡ batch_count (state_of y)
step_tag site wanted r x y n (seq.answered s was is now) e =
    under_has site.root s wanted.operation wanted.conditions n (sym (serial_tag (shows_serial wanted) (batch_count (state_to s wanted)) _)
    ∙ ap (λ (p : ResponseValue). p.tag) (sym is) ∙ e)
    ∙ ap (λ (z : Server). batch_count (state_of z)) (sym now)
step_tag site wanted r x y n (seq.out_of_memory is now) e = no_tag r.tag n (ap (λ (p : ResponseValue). p.tag) is ∙ untagged_fault (Keeper Memory)) e
step_tag site wanted r x y n (seq.store_failed s was has_request is now) e = no_tag r.tag n (ap (λ (p : ResponseValue). p.tag) is ∙ untagged_fault (Keeper Device)) e
step_tag site wanted r x y n (seq.still_failed before after was is now) e =
    no_tag r.tag n (ap (λ (p : ResponseValue). p.tag) is ∙ untagged_shut site.root wanted.operation) e

-- ---- two parts of one history

-- one of two lists that a list begins with begins with the other
abbrev OneBegins : List Event → List Event → Type 0
OneBegins xs ys = ((more : List Event) × (ys ≡ xs ++ more)) ⊎ ((more : List Event) × (xs ≡ ys ++ more))

one_longer : (x y : Event) (xs ys : List Event) → x ≡ y → OneBegins xs ys → OneBegins (x ∷ xs) (y ∷ ys)
one_longer x y xs ys same (inl (more, is)) = inl (more, ap (λ (z : Event). z ∷ ys) (sym same) ∙ ap (λ (l : List Event). x ∷ l) is)
one_longer x y xs ys same (inr (more, is)) = inr (more, ap (λ (z : Event). z ∷ xs) same ∙ ap (λ (l : List Event). y ∷ l) is)

one_begins : (xs ys l m : List Event) → xs ++ l ≡ ys ++ m → OneBegins xs ys
one_begins [] ys l m e = inl (ys, refl)
one_begins (x ∷ xs) [] l m e = inr (x ∷ xs, refl)
one_begins (x ∷ xs) (y ∷ ys) l m e =
    let first : x ≡ y = cc in
    let rest : xs ++ l ≡ ys ++ m = cc in
    one_longer x y xs ys first (one_begins xs ys l m rest)

-- if as many batches are kept after the longer part, the states are the same
part_stays : (s : State) (xs more : List Event) → batch_count (state_after s (xs ++ more)) ≡ batch_count (state_after s xs)
    → state_after s (xs ++ more) ≡ state_after s xs
part_stays s xs more e =
    let split = state_append s xs more in
    split ∙ (all_grow (state_after s xs) (acknowledged more)).stays (ap batch_count (sym split) ∙ e)

pub append_one : (b l : List Event) (e : Event) → (b ++ e ∷ []) ++ l ≡ b ++ e ∷ l
append_one [] l e = refl
append_one (f ∷ b) l e = ap (λ (r : List Event). f ∷ r) (append_one b l e)

-- the tag of an event's answer is that of the state after it
pub tag_happens : (site : SiteValue) (s : State) (history b : List Event) (e : Event) (n : ℕ) → Happens site s history b e → e.response.tag ≡ Some n
    → n ≡ batch_count (state_after s (b ++ e ∷ []))
tag_happens site s history b e n it has =
    let at = event_at site (serving s) it.server b it.later e (subst (λ (h : List Event). IsSequential site (serving s) h it.server) it.is it.sequential) in
    step_tag site e.request.wanted e.response at.old at.new n at.step has ∙ ap batch_count at.to

pub one_tag_one_state : OneTagOneState
one_tag_one_state site s history b c e f n one other tag same_tag =
    let xs : List Event = b ++ e ∷ [] in
    let ys : List Event = c ++ f ∷ [] in
    let counts : batch_count (state_after s xs) ≡ batch_count (state_after s ys) =
    sym (tag_happens site s history b e n one tag) ∙ tag_happens site s history c f n other same_tag in
    let whole : xs ++ one.later ≡ ys ++ other.later =
    append_one b one.later e ∙ sym one.is ∙ other.is ∙ sym (append_one c other.later f) in
    elim (one_begins xs ys one.later other.later whole) [
      | inl (more, is) ↦
          let longer = ap (state_after s) is in
          sym (part_stays s xs more (sym (ap batch_count longer) ∙ sym counts)) ∙ sym longer
      | inr (more, is) ↦
          let longer = ap (state_after s) is in
          longer ∙ part_stays s ys more (sym (ap batch_count longer) ∙ counts)
    ]

-- ---- no lost change

not_answered : {A : Type 0} (fault : Fault) (r : ResponseValue) → r ≡ fault_response (Keeper fault) → r.status ≡ 200 → A
not_answered fault r is ok = absurd (not_200 fault (ap (λ (p : ResponseValue). p.status) (sym is) ∙ ok))

acted_on : (site : SiteValue) (s : State) (c : List Event) (f : Event) (b : BatchValue) (p : PreconditionsValue) (n : ℕ) (x y : Server)
    → state_of x ≡ state_after s c → Step site f.request.wanted f.response x y → f.request.wanted.operation ≡ batch b → f.request.wanted.conditions ≡ Some p
    → p.if_match ≡ tags (number_tag n ∷ []) → f.response.status ≡ 200 → n < 2 ^ 64 → batch_count (state_after s c) < 2 ^ 64
    → (n ≡ batch_count (state_after s c)) ⊎ (is_used (state_after s c) b.key ≡ true)
acted_on site s c f b p n x y from (seq.answered t was shown now) is conditions listed ok below few =
    let here : state_after s c ≡ t = sym from ∙ ap state_of was in
    let wanted : response_under site.root t f.request.wanted.operation f.request.wanted.conditions ≡ response_under site.root t (batch b) (Some p) =
    ap (λ (o : OperationValue). response_under site.root t o f.request.wanted.conditions) is ∙ ap (response_under site.root t (batch b)) conditions in
    let status : (response_under site.root t (batch b) (Some p)).status ≡ 200 =
    ap (λ (r : ResponseValue). r.status) (sym wanted) ∙ sym (serial_status (shows_serial f.request.wanted) (batch_count (state_to t f.request.wanted)) _)
    ∙ ap (λ (r : ResponseValue). r.status) (sym shown) ∙ ok in
    subst (λ (u : State). (n ≡ batch_count u) ⊎ (is_used u b.key ≡ true)) (sym here)
    (batch_acts_on site.root t b p n listed (subst (λ (u : State). batch_count u < 2 ^ 64) here few) below status)
acted_on site s c f b p n x y from (seq.out_of_memory shown now) is conditions listed ok below few = not_answered Memory f.response shown ok
acted_on site s c f b p n x y from (seq.store_failed t was needed shown now) is conditions listed ok below few = not_answered Device f.response shown ok
acted_on site s c f b p n x y from (seq.still_failed before later was shown now) is conditions listed ok below few =
    not_answered Reopen f.response (shown ∙ ap (response_shut site.root) is) ok

pub no_lost_change : NoLostChange
no_lost_change site s history c f b p n it is conditions listed ok below few =
    let at = event_at site (serving s) it.server c it.later f (subst (λ (h : List Event). IsSequential site (serving s) h it.server) it.is it.sequential) in
    acted_on site s c f b p n at.old at.new at.from at.step is conditions listed ok below few

-- ---- a 304 is the answer that had its tag

-- an answer of status 200 with a tag, to a read
record Shows (root : Text) (s : State) (operation : OperationValue) (n : ℕ) (r : ResponseValue) : Type 0 where
  is : r ≡ tagged n (response_in root s operation)
  tag : n ≡ batch_count s

tagged_shows : (root : Text) (s : State) (operation : OperationValue) (n : ℕ) → (tagged (batch_count s) (response_in root s operation)).tag ≡ Some n
    → Shows root s operation n (tagged (batch_count s) (response_in root s operation))
tagged_shows root s operation n e =
    let same : n ≡ batch_count s = tagged_has (batch_count s) (response_in root s operation) (untagged root s operation) n e in
    record { is = ap (λ m. tagged m (response_in root s operation)) (sym same); tag = same }

instead_shows : {A : Type 0} (p other : ResponseValue) (n : ℕ) → (p.status ≡ 200 → ⊥) → other.tag ≡ None → (instead p other).status ≡ 200 → (instead p other).tag ≡ Some n → A
instead_shows {A} p other n never none = by_test (other.status == 200) where
  by_test : (t : Bool) → (if t then p else other).status ≡ 200 → (if t then p else other).tag ≡ Some n → A
  by_test true ok e = absurd (never ok)
  by_test false ok e = no_tag other.tag n none e

modified_not_200 : (m : ℕ) → (not_modified m).status ≡ 200 → ⊥
modified_not_200 m e = omega (arith, e)

read_shows : (root : Text) (s : State) (operation : OperationValue) (verdict : Verdict) (n : ℕ)
    → (read_judged (batch_count s) (response_in root s operation) verdict).status ≡ 200
    → (read_judged (batch_count s) (response_in root s operation) verdict).tag ≡ Some n
    → Shows root s operation n (read_judged (batch_count s) (response_in root s operation) verdict)
read_shows root s operation Holds n ok e = tagged_shows root s operation n e
read_shows root s operation NotModified n ok e =
    instead_shows (not_modified (batch_count s)) (response_in root s operation) n (modified_not_200 (batch_count s)) (untagged root s operation) ok e
read_shows root s operation Changed n ok e = instead_shows changed (response_in root s operation) n changed_not_200 (untagged root s operation) ok e

needed_shows : (root : Text) (s : State) (operation : OperationValue) (verdict : Verdict) (n : ℕ) → is_batch operation ≡ false → (needed : Bool)
    → (if needed then judged root s operation verdict else response_in root s operation).status ≡ 200
    → (if needed then judged root s operation verdict else response_in root s operation).tag ≡ Some n
    → Shows root s operation n (if needed then judged root s operation verdict else response_in root s operation)
needed_shows root s operation verdict n reads true ok e =
    let same = read_is_judged root s operation verdict reads in
    subst (λ (r : ResponseValue). Shows root s operation n r) (sym same)
    (read_shows root s operation verdict n (ap (λ (r : ResponseValue). r.status) (sym same) ∙ ok) (ap (λ (r : ResponseValue). r.tag) (sym same) ∙ e))
needed_shows root s operation verdict n reads false ok e = no_tag (response_in root s operation).tag n (untagged root s operation) e

under_shows : (root : Text) (s : State) (operation : OperationValue) (conditions : Option PreconditionsValue) (n : ℕ) → is_batch operation ≡ false
    → (response_under root s operation conditions).status ≡ 200 → (response_under root s operation conditions).tag ≡ Some n
    → Shows root s operation n (response_under root s operation conditions)
under_shows root s operation None n reads ok e = no_tag (response_in root s operation).tag n (untagged root s operation) e
under_shows root s operation (Some p) n reads ok e = needed_shows root s operation (verdict_on (batch_count s) p operation) n reads (needs_state operation) ok e

-- the same, with its serial if it is shown
record ShowsTo (root : Text) (s : State) (wanted : Wanted) (n : ℕ) (r : ResponseValue) : Type 0 where
  is : r ≡ with_serial (shows_serial wanted) n (tagged n (response_in root s wanted.operation))
  tag : n ≡ batch_count s

-- a read leaves the state as it is
read_kept : (s : State) (operation : OperationValue) (conditions : Option PreconditionsValue) → is_batch operation ≡ false → state_under s operation conditions ≡ s
read_kept s operation None reads = read_stays s operation reads
read_kept s operation (Some p) reads = read_by s operation (verdict_on (batch_count s) p operation) reads

to_shows : (root : Text) (s : State) (wanted : Wanted) (n : ℕ) → is_batch wanted.operation ≡ false → (response_to root s wanted).status ≡ 200
    → (response_to root s wanted).tag ≡ Some n → ShowsTo root s wanted n (response_to root s wanted)
to_shows root s wanted n reads ok e =
    let numbered = shows_serial wanted in
    let under = response_under root s wanted.operation wanted.conditions in
    let count = batch_count (state_to s wanted) in
    let it = under_shows root s wanted.operation wanted.conditions n reads (sym (serial_status numbered count under) ∙ ok) (sym (serial_tag numbered count under) ∙ e) in
    let same : count ≡ n = ap batch_count (read_kept s wanted.operation wanted.conditions reads) ∙ sym it.tag in
    record { is = ap (with_serial numbered count) it.is ∙ ap (λ k. with_serial numbered k (tagged n (response_in root s wanted.operation))) same; tag = it.tag }

-- the answer to a read that was shown with a tag
shown_with : (site : SiteValue) (wanted : Wanted) (r : ResponseValue) (x y : Server) (n : ℕ) → Step site wanted r x y → is_batch wanted.operation ≡ false
    → r.status ≡ 200 → r.tag ≡ Some n → ShowsTo site.root (state_of x) wanted n r
shown_with site wanted r x y n (seq.answered t was shown now) reads ok e =
    let it = to_shows site.root t wanted n reads (ap (λ (p : ResponseValue). p.status) (sym shown) ∙ ok)
    (ap (λ (p : ResponseValue). p.tag) (sym shown) ∙ e) in
    subst (λ (z : Server). ShowsTo site.root (state_of z) wanted n r) (sym was)
    (subst (λ (p : ResponseValue). ShowsTo site.root t wanted n p) (sym shown) it)
shown_with site wanted r x y n (seq.out_of_memory shown now) reads ok e = not_answered Memory r shown ok
shown_with site wanted r x y n (seq.store_failed t was needed shown now) reads ok e = not_answered Device r shown ok
shown_with site wanted r x y n (seq.still_failed before later was shown now) reads ok e =
    no_tag r.tag n (ap (λ (p : ResponseValue). p.tag) shown ∙ untagged_shut site.root wanted.operation) e

-- what was answered with status 304
not_304 : {A : Type 0} (fault : Fault) (r : ResponseValue) → r ≡ fault_response (Keeper fault) → r.status ≡ 304 → A
not_304 fault r is e = absurd (fault_304 (Keeper fault) (ap (λ (p : ResponseValue). p.status) (sym is) ∙ e))

shut_304 : (root : Text) (operation : OperationValue) → (response_shut root operation).status ≡ 304 → ⊥
shut_304 root (faulty fault) e = fault_304 fault e
shut_304 root landing_page e = omega (arith, e)
shut_304 root api_text e = omega (arith, e)
shut_304 root conformance_classes e = omega (arith, e)
shut_304 root all_collections e = fault_304 (Keeper Reopen) e
shut_304 root (one_collection name) e = fault_304 (Keeper Reopen) e
shut_304 root (page name q) e = fault_304 (Keeper Reopen) e
shut_304 root (feature name id) e = fault_304 (Keeper Reopen) e
shut_304 root (changes after limit) e = fault_304 (Keeper Reopen) e
shut_304 root service_status e = fault_304 (Keeper Reopen) e
shut_304 root (batch b) e = fault_304 (Keeper Reopen) e

-- and only a read is answered so
batch_or_read : (operation : OperationValue) → ((b : BatchValue) → operation ≡ batch b → ⊥) → is_batch operation ≡ false
batch_or_read (faulty fault) none = refl
batch_or_read landing_page none = refl
batch_or_read api_text none = refl
batch_or_read conformance_classes none = refl
batch_or_read all_collections none = refl
batch_or_read (one_collection name) none = refl
batch_or_read (page name q) none = refl
batch_or_read (feature name id) none = refl
batch_or_read (changes after limit) none = refl
batch_or_read service_status none = refl
batch_or_read (batch b) none = absurd (none b refl)

batch_under_304 : (root : Text) (s : State) (b : BatchValue) (conditions : Option PreconditionsValue) → (response_under root s (batch b) conditions).status ≡ 304 → ⊥
batch_under_304 root s b None e = response_304 root s (batch b) e
batch_under_304 root s b (Some p) e = batch_no_304 root s b (verdict_on (batch_count s) p (batch b)) e

to_304_only : (root : Text) (s : State) (wanted : Wanted) → (response_to root s wanted).status ≡ 304 → is_batch wanted.operation ≡ false
to_304_only root s wanted e = batch_or_read wanted.operation (λ b is.
    batch_under_304 root s b wanted.conditions
    (ap (λ (o : OperationValue). (response_under root s o wanted.conditions).status) (sym is)
    ∙ sym (serial_status (shows_serial wanted) (batch_count (state_to s wanted)) (response_under root s wanted.operation wanted.conditions)) ∙ e))

read_304_only : (site : SiteValue) (s : State) (c : List Event) (f : Event) (x y : Server) → state_of x ≡ state_after s c → Step site f.request.wanted f.response x y
    → f.response.status ≡ 304 → is_batch f.request.wanted.operation ≡ false
read_304_only site s c f x y from (seq.answered t was shown now) e = to_304_only site.root t f.request.wanted (ap (λ (p : ResponseValue). p.status) (sym shown) ∙ e)
read_304_only site s c f x y from (seq.out_of_memory shown now) e = not_304 Memory f.response shown e
read_304_only site s c f x y from (seq.store_failed t was needed shown now) e = not_304 Device f.response shown e
read_304_only site s c f x y from (seq.still_failed before later was shown now) e =
    absurd (shut_304 site.root f.request.wanted.operation (ap (λ (p : ResponseValue). p.status) (sym shown) ∙ e))

-- it is that of the state before the request, with its serial if it is shown
record Is304To (root : Text) (s : State) (wanted : Wanted) (r : ResponseValue) : Type 0 where
  is : r ≡ with_serial (shows_serial wanted) (batch_count s) (not_modified (batch_count s))
  would : (response_in root s wanted.operation).status ≡ 200

to_304 : (root : Text) (s : State) (wanted : Wanted) → (response_to root s wanted).status ≡ 304 → Is304To root s wanted (response_to root s wanted)
to_304 root s wanted e =
    let numbered = shows_serial wanted in
    let count = batch_count (state_to s wanted) in
    let it = under_304 root s wanted.operation wanted.conditions (sym (serial_status numbered count (response_under root s wanted.operation wanted.conditions)) ∙ e) in
    let same : count ≡ batch_count s = ap batch_count (read_kept s wanted.operation wanted.conditions (to_304_only root s wanted e)) in
    record { is = ap (with_serial numbered count) it.is ∙ ap (λ k. with_serial numbered k (not_modified (batch_count s))) same; would = it.would }

step_304 : (site : SiteValue) (wanted : Wanted) (r : ResponseValue) (x y : Server) → Step site wanted r x y → r.status ≡ 304
    → Is304To site.root (state_of x) wanted r
step_304 site wanted r x y (seq.answered t was shown now) e =
    let it = to_304 site.root t wanted (ap (λ (p : ResponseValue). p.status) (sym shown) ∙ e) in
    subst (λ (z : Server). Is304To site.root (state_of z) wanted r) (sym was)
    (subst (λ (p : ResponseValue). Is304To site.root t wanted p) (sym shown) it)
step_304 site wanted r x y (seq.out_of_memory shown now) e = not_304 Memory r shown e
step_304 site wanted r x y (seq.store_failed t was needed shown now) e = not_304 Device r shown e
step_304 site wanted r x y (seq.still_failed before later was shown now) e =
    absurd (shut_304 site.root wanted.operation (ap (λ (p : ResponseValue). p.status) (sym shown) ∙ e))

-- two parts of one history after which as many batches are kept
parts_alike : (s : State) (b c l m : List Event) → b ++ l ≡ c ++ m → batch_count (state_after s b) ≡ batch_count (state_after s c) → state_after s b ≡ state_after s c
parts_alike s b c l m whole counts = elim (one_begins b c l m whole) [
  | inl (more, is) ↦
      let longer = ap (state_after s) is in
      sym (part_stays s b more (sym (ap batch_count longer) ∙ sym counts)) ∙ sym longer
  | inr (more, is) ↦
      let longer = ap (state_after s) is in
      longer ∙ part_stays s c more (sym (ap batch_count longer) ∙ counts)
]

pub not_modified_is_the_same : NotModifiedIsTheSame
not_modified_is_the_same site s history c f it status =
    let at = event_at site (serving s) it.server c it.later f (subst (λ (h : List Event). IsSequential site (serving s) h it.server) it.is it.sequential) in
    let says = subst (λ (t : State). Is304To site.root t f.request.wanted f.response) at.from
    (step_304 site f.request.wanted f.response at.old at.new at.step status) in (
      batch_count (state_after s c),
      says.is,
      says.would,
      λ b e other same ok tag.
          let there = event_at site (serving s) other.server b other.later e (subst (λ (h : List Event). IsSequential site (serving s) h other.server) other.is other.sequential) in
          let reads : is_batch e.request.wanted.operation ≡ false = ap is_batch same ∙ read_304_only site s c f at.old at.new at.from at.step status in
          let shows = subst (λ (t : State). ShowsTo site.root t e.request.wanted (batch_count (state_after s c)) e.response) there.from
          (shown_with site e.request.wanted e.response there.old there.new (batch_count (state_after s c)) there.step reads ok tag) in
          let alike = parts_alike s b c (e ∷ other.later) (f ∷ it.later) (sym other.is ∙ it.is) (sym shows.tag) in
          let numbered = shows_serial e.request.wanted in
          let count = batch_count (state_after s c) in
          shows.is ∙ ap (λ (t : State). with_serial numbered count (tagged count (response_in site.root t e.request.wanted.operation))) alike
          ∙ ap (λ (o : OperationValue). with_serial numbered count (tagged count (response_in site.root (state_after s c) o))) same,
    )
