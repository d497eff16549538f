-- Answers by the tag of the state, as they are shown.
use Rattle.std.proofs.Common.{◌≡◌, ◌≢◌, ◌∙◌, ℕ, Bool, true, false, Option, None, Some, refl, sym, ap, subst, Result, Ok, Err, inl, inr}
use Rattle.std.specs.Prelude.{if◌then◌else◌, unwrap_or, ◌&&◌, ◌==◌}
use Rattle.streetmap_http.specs.Preconditions.{PreconditionsValue}
use Rattle.streetmap_batch.specs.Text.{Text}
use Rattle.streetmap_batch.specs.BatchValue.{BatchValue}
use Rattle.streetmap_ledger.specs.State.{State}
use Rattle.streetmap_ledger.specs.Model.{Model}
use Rattle.streetmap_ledger.specs.Batches.{act}
use Rattle.streetmap_ledger.specs.Kept.{batch_count}
use Rattle.streetmap_ledger.specs.Keep.{IsRead, IsBatchCount}
use Rattle.streetmap_ledger.specs.declared.reply.Fault.{Fault}
use Rattle.streetmap_ledger.specs.declared.reply.Reply.{Reply}
use Rattle.streetmap_ledger.specs.declared.reply.Reply.TheVariants.{Accepted, Repeated, Refused}
use Rattle.streetmap_routes.specs.Operations.{OperationValue, faulty, landing_page, api_text, conformance_classes, all_collections, one_collection, page, feature, changes, service_status, batch}
use Rattle.streetmap_tags.specs.Keys.{is_used}
use Rattle.streetmap_web.specs.declared.response.Response.{Response}
use Rattle.streetmap_web.specs.declared.verdict.Verdict.{Verdict}
use Rattle.streetmap_web.specs.declared.verdict.Verdict.TheVariants.{Holds, NotModified, Changed}
use Rattle.streetmap_web.specs.Response.{ResponseValue, Wanted, fault_response, replied, tagged, instead, not_modified, changed, read_judged, judged, is_batch, needs_state, response_in, response_under, response_to, state_by, state_to, with_serial, verdict_on}
use Rattle.streetmap_web.specs.Conditions.{ByCalls}
use Rattle.streetmap_web.specs.Responds.{Responds, RespondsIn, RespondsToBatch, AppliesBy, IsUncalled, IsReplied, IsHeldBack, IsSerialOf, MayFail, IsResponse, response_value, reads_tag}
use Rattle.streetmap_web.specs.Judging.{RespondsBy, RespondsByReply, tag_after, verdict_under, tag_under, shown}
use Rattle.streetmap_web.proofs.CallsInARow.{calls_then, by_call}
use Rattle.streetmap_web.proofs.ReadResponses.{open_not_shut}
use Rattle.streetmap_web.proofs.Untagged.{untagged, untagged_fault}
use Rattle.streetmap_web.proofs.Verdicts.{tag_kept, read_by, read_is_judged}
use Rattle.streetmap_web.proofs.Judgements.{later_in, later_batch}

-- ---- the number of an answer's tag

-- the number of the tag, or else this number
abbrev number_of : ℕ → ResponseValue → ℕ
number_of n p = unwrap_or p.tag n

no_number : (n : ℕ) (p : ResponseValue) → p.tag ≡ None → number_of n p ≡ n
no_number n p none = ap (λ (o : Option ℕ). unwrap_or o n) none

tagged_number : (n : ℕ) (p : ResponseValue) → p.tag ≡ None → number_of n (tagged n p) ≡ n
tagged_number n p none = by (p.status == 200) where
  by : (t : Bool) → number_of n (if t then record p { tag = Some n } else p) ≡ n
  by true = refl
  by false = no_number n p none

instead_number : (n : ℕ) (q p : ResponseValue) → number_of n q ≡ n → p.tag ≡ None → number_of n (instead q p) ≡ n
instead_number n q p same none = by (p.status == 200) where
  by : (t : Bool) → number_of n (if t then q else p) ≡ n
  by true = same
  by false = no_number n p none

changed_number : (n : ℕ) → number_of n changed ≡ n
changed_number n = no_number n changed (untagged_fault _)

read_number : (n : ℕ) (p : ResponseValue) (verdict : Verdict) → p.tag ≡ None → number_of n (read_judged n p verdict) ≡ n
read_number n p Holds none = tagged_number n p none
read_number n p NotModified none = instead_number n (not_modified n) p refl none
read_number n p Changed none = instead_number n changed p (changed_number n) none

-- a refused batch has no tag, and changes nothing
reply_number : (n m : ℕ) (key : Text) (reply : Reply) → n ≡ tag_after m reply → number_of m (tagged n (replied key reply)) ≡ n
reply_number n m key (Accepted counts serial) is = refl
reply_number n m key (Repeated counts serial) is = refl
reply_number n m key (Refused refusal place) is = sym is

held_number : (n : ℕ) (p : ResponseValue) (used : Bool) → p.tag ≡ None → number_of n (if used then tagged n p else changed) ≡ n
held_number n p true none = tagged_number n p none
held_number n p false none = changed_number n

module _ (root : Text) (s : State) where
  reads_number : (operation : OperationValue) (verdict : Verdict) → is_batch operation ≡ false
      → number_of (batch_count s) (judged root s operation verdict) ≡ batch_count (state_by s operation verdict)
  reads_number operation verdict reads =
      ap (number_of (batch_count s)) (read_is_judged root s operation verdict reads)
      ∙ read_number (batch_count s) (response_in root s operation) verdict (untagged root s operation)
      ∙ ap batch_count (sym (read_by s operation verdict reads))

  -- it is that of the state afterwards
  judged_number : (operation : OperationValue) (verdict : Verdict)
      → number_of (batch_count s) (judged root s operation verdict) ≡ batch_count (state_by s operation verdict)
  judged_number (faulty fault) verdict = reads_number (faulty fault) verdict refl
  judged_number landing_page verdict = reads_number landing_page verdict refl
  judged_number api_text verdict = reads_number api_text verdict refl
  judged_number conformance_classes verdict = reads_number conformance_classes verdict refl
  judged_number all_collections verdict = reads_number all_collections verdict refl
  judged_number (one_collection name) verdict = reads_number (one_collection name) verdict refl
  judged_number (page name q) verdict = reads_number (page name q) verdict refl
  judged_number (feature name id) verdict = reads_number (feature name id) verdict refl
  judged_number (changes after limit) verdict = reads_number (changes after limit) verdict refl
  judged_number service_status verdict = reads_number service_status verdict refl
  judged_number (batch b) Holds = reply_number (batch_count (act s b).state) (batch_count s) b.key (act s b).reply (tag_kept s b)
  judged_number (batch b) NotModified = held_number (batch_count s) (replied b.key (act s b).reply) (is_used s b.key) refl
  judged_number (batch b) Changed = held_number (batch_count s) (replied b.key (act s b).reply) (is_used s b.key) refl

-- ---- without its tag

without_tag : ResponseValue → ResponseValue
without_tag p = record p { tag = None }

untagged_same : (p : ResponseValue) → p.tag ≡ None → without_tag p ≡ p
unfolding without_tag
untagged_same p none = ap (λ (o : Option ℕ). record p { tag = o }) (sym none)

tagged_without : (n : ℕ) (p : ResponseValue) → p.tag ≡ None → without_tag (tagged n p) ≡ p
unfolding without_tag
tagged_without n p none = by (p.status == 200) where
  by : (t : Bool) → without_tag (if t then record p { tag = Some n } else p) ≡ p
  by true = untagged_same p none
  by false = untagged_same p none

reads_without : (root : Text) (s : State) (operation : OperationValue) → is_batch operation ≡ false
    → without_tag (judged root s operation Holds) ≡ response_in root s operation
reads_without root s operation reads =
    ap without_tag (read_is_judged root s operation Holds reads) ∙ tagged_without (batch_count s) (response_in root s operation) (untagged root s operation)

-- what is judged to hold is answered as without conditions, but for its tag
judged_without : (root : Text) (s : State) (operation : OperationValue) → without_tag (judged root s operation Holds) ≡ response_in root s operation
judged_without root s (faulty fault) = reads_without root s (faulty fault) refl
judged_without root s landing_page = reads_without root s landing_page refl
judged_without root s api_text = reads_without root s api_text refl
judged_without root s conformance_classes = reads_without root s conformance_classes refl
judged_without root s all_collections = reads_without root s all_collections refl
judged_without root s (one_collection name) = reads_without root s (one_collection name) refl
judged_without root s (page name q) = reads_without root s (page name q) refl
judged_without root s (feature name id) = reads_without root s (feature name id) refl
judged_without root s (changes after limit) = reads_without root s (changes after limit) refl
judged_without root s service_status = reads_without root s service_status refl
judged_without root s (batch b) = tagged_without (batch_count (act s b).state) (replied b.key (act s b).reply) refl

-- ---- as it is shown

module _ (root : Text) (s : State) (operation : OperationValue) (needed : needs_state operation ≡ true) where
  -- the answer of the state, by the conditions
  answer_under : (conditions : Option PreconditionsValue)
      → record (judged root s operation (verdict_under (batch_count s) operation conditions))
      { tag = tag_under conditions (judged root s operation (verdict_under (batch_count s) operation conditions)).tag }
      ≡ response_under root s operation conditions
  unfolding without_tag
  answer_under None = judged_without root s operation
  answer_under (Some p) =
      let verdict : Verdict = verdict_on (batch_count s) p operation in
      ap (λ (b : Bool). if b then judged root s operation verdict else response_in root s operation) (sym needed)

  state_under_is : (conditions : Option PreconditionsValue) (numbered : Bool)
      → state_by s operation (verdict_under (batch_count s) operation conditions)
      ≡ state_to s (record { operation = operation; conditions = conditions; numbered = numbered })
  state_under_is None numbered = refl
  state_under_is (Some p) numbered = refl

  -- the answer that is shown is the answer to what is wanted
  shown_is : (conditions : Option PreconditionsValue) (numbered : Bool)
      → shown (record { operation = operation; conditions = conditions; numbered = numbered }) (batch_count s)
      (judged root s operation (verdict_under (batch_count s) operation conditions))
      ≡ response_to root s (record { operation = operation; conditions = conditions; numbered = numbered })
  shown_is conditions numbered =
      let wanted : Wanted = record { operation = operation; conditions = conditions; numbered = numbered } in
      let verdict : Verdict = verdict_under (batch_count s) operation conditions in
      let number = judged_number root s operation verdict ∙ ap batch_count (state_under_is conditions numbered) in
      ap (with_serial numbered (number_of (batch_count s) (judged root s operation verdict))) (answer_under conditions)
      ∙ ap (λ n. with_serial numbered n (response_under root s operation conditions)) number
      ∙ ap (λ t. with_serial t (batch_count (state_to s wanted)) (response_under root s operation conditions)) (and_needed numbered (needs_state operation) needed) where
        and_needed : (b c : Bool) → c ≡ true → b ≡ (b && c)
        and_needed true c e = sym e
        and_needed false c e = refl

-- its status is the same
shown_status : (conditions : Option PreconditionsValue) (operation : OperationValue) (numbered : Bool) (n : ℕ) (p : ResponseValue)
    → (shown (record { operation = operation; conditions = conditions; numbered = numbered }) n p).status ≡ p.status
shown_status conditions operation true n p = refl
shown_status conditions operation false n p = refl

-- ---- batches

-- the reply is shown with the serial that it names, or, if it was refused, with that of the state before
reply_shown : (operation : OperationValue) (conditions : Option PreconditionsValue) (numbered : Bool) (n m : ℕ) (key : Text) (reply : Reply) → IsSerialOf reply m
    → IsReplied (record { operation = operation; conditions = conditions; numbered = numbered }) key reply
    (shown (record { operation = operation; conditions = conditions; numbered = numbered }) n (tagged m (replied key reply)))
reply_shown operation None numbered n m key (Accepted counts serial) is = (m, is, refl)
reply_shown operation None numbered n m key (Repeated counts serial) is = (m, is, refl)
reply_shown operation None numbered n m key (Refused refusal place) is = (n, is, refl)
reply_shown operation (Some p) numbered n m key (Accepted counts serial) is = (m, is, refl)
reply_shown operation (Some p) numbered n m key (Repeated counts serial) is = (m, is, refl)
reply_shown operation (Some p) numbered n m key (Refused refusal place) is = (n, is, refl)

changed_shown : (operation : OperationValue) (conditions : Option PreconditionsValue) (numbered : Bool) (n : ℕ) → verdict_under n operation conditions ≢ Holds
    → IsHeldBack (record { operation = operation; conditions = conditions; numbered = numbered })
    (shown (record { operation = operation; conditions = conditions; numbered = numbered }) n changed)
unfolding fault_response
changed_shown operation None numbered n other = absurd (other refl)
changed_shown operation (Some p) numbered n other = (refl, n, refl)

may_fail : (wanted : Wanted) (fault : Fault) → reads_tag wanted ≡ true → MayFail (reads_tag wanted) fault
may_fail wanted fault reads = subst (λ (t : Bool). MayFail t fault) (sym reads) tt

module _ {K : Type 0} (model : Model K) (old new : K) (wanted : Wanted) (reads : reads_tag wanted ≡ true) where
  applied_by : (b : BatchValue) (r : Result Reply Fault) → AppliesBy model true old b r new → AppliesBy model (reads_tag wanted) old b r new
  applied_by b r says = subst (λ (t : Bool). AppliesBy model t old b r new) (sym reads) says

  uncalled_by : ByCalls model old new → IsUncalled model (reads_tag wanted) old new
  uncalled_by says = subst (λ (t : Bool). IsUncalled model t old new) (sym reads) says

  batch_shown : (n : ℕ) (b : BatchValue) (response last : Response) → response_value last ≡ shown wanted n (response_value response)
      → RespondsByReply b.key (verdict_under n wanted.operation wanted.conditions) IsResponse (Ok response) (λ r. AppliesBy model true old b r new) (ByCalls model old new)
      → RespondsToBatch b.key wanted IsResponse (Ok last) (λ r. AppliesBy model (reads_tag wanted) old b r new) (IsUncalled model (reads_tag wanted) old new)
  batch_shown n b response last is says = elim says [
    | inl it ↦ inl (
      it.0,
      shown wanted n (tagged it.1 (replied b.key it.0)),
      applied_by b (Ok it.0) it.2,
      reply_shown wanted.operation wanted.conditions wanted.numbered n it.1 b.key it.0 it.3,
      is ∙ ap (shown wanted n) it.4,
    )
    | inr it ↦ inr (
      shown wanted n changed,
      uncalled_by it.1,
      changed_shown wanted.operation wanted.conditions wanted.numbered n it.0,
      is ∙ ap (shown wanted n) it.2,
    )
  ]

  batch_failed : (verdict : Verdict) (b : BatchValue) (fault : Fault)
      → RespondsByReply {A = Response} b.key verdict IsResponse (Err fault) (λ r. AppliesBy model true old b r new) (ByCalls model old new)
      → RespondsToBatch {A = Response} b.key wanted IsResponse (Err fault) (λ r. AppliesBy model (reads_tag wanted) old b r new) (IsUncalled model (reads_tag wanted) old new)
  batch_failed verdict b fault says = elim says [
    | inl it ↦ inl (applied_by b (Err fault) it)
    | inr it ↦ inr (uncalled_by it, may_fail wanted fault reads)
  ]

-- ---- the tag was read first

module _ {K : Type 0} {model : Model K} {old mid new : K} {n : ℕ} (read : IsRead model old mid (Ok n) IsBatchCount) (root : Text) (wanted : Wanted)
    (reads : reads_tag wanted ≡ true) (needed : needs_state wanted.operation ≡ true) where
  pub shown_wanted : (response last : Response) → response_value last ≡ shown wanted n (response_value response)
      → RespondsBy model root wanted.operation (verdict_under n wanted.operation wanted.conditions) n IsResponse mid new (Ok response)
      → Responds model root wanted IsResponse old new (Ok last)
  shown_wanted response last is says = record {
    calls = calls_then model old mid new (by_call read.call) says.calls;
    in_state = λ clean s h.
        let seen = read.reads (says.calls.began_clean clean) s h in
        let here = says.in_state clean s seen.1 seen.0 in (
          is ∙ ap (shown wanted n) here.0
              ∙ ap (λ k. shown wanted k (judged root s wanted.operation (verdict_under k wanted.operation wanted.conditions))) seen.0
              ∙ shown_is root s wanted.operation needed wanted.conditions wanted.numbered,
          subst (model.represents new)
              (ap (λ k. state_by s wanted.operation (verdict_under k wanted.operation wanted.conditions)) seen.0
              ∙ state_under_is root s wanted.operation needed wanted.conditions wanted.numbered)
              here.1,
        );
    shut = λ why e. open_not_shut _ why read.call.faults.0 e;
    any = (
      shown wanted n says.any.0,
      (
        λ plain. absurd (let bad : true ≡ false = sym needed ∙ plain in cc),
        λ has_request e. says.any.1.1 has_request (sym (shown_status wanted.conditions wanted.operation wanted.numbered n says.any.0) ∙ e),
      ),
      is ∙ ap (shown wanted n) says.any.2,
    );
    to_batch = λ b e. batch_shown model old new wanted reads n b response last is
        (later_batch read new IsResponse b (verdict_under n wanted.operation wanted.conditions) (verdict_under n wanted.operation wanted.conditions) (Ok response) (λ no. no) (says.to_batch b e));
  }

  pub failed_after : (verdict : Verdict) (fault : Fault) → verdict ≡ verdict_under n wanted.operation wanted.conditions
      → RespondsBy {A = Response} model root wanted.operation verdict n IsResponse mid new (Err fault)
      → Responds {A = Response} model root wanted IsResponse old new (Err fault)
  failed_after verdict fault same says = record {
    calls = calls_then model old mid new (by_call read.call) says.calls;
    in_state = λ clean s h.
        let seen = read.reads (says.calls.began_clean clean) s h in
        let next : state_by s wanted.operation verdict ≡ state_to s wanted =
        ap (state_by s wanted.operation) same ∙ ap (λ k. state_by s wanted.operation (verdict_under k wanted.operation wanted.conditions)) seen.0
        ∙ state_under_is root s wanted.operation needed wanted.conditions wanted.numbered in
        later_in read new IsResponse s (state_to s wanted) wanted.operation (response_to root s wanted) (Err fault) says.calls
        (subst (λ (t : State). RespondsIn {A = Response} model s wanted.operation (response_to root s wanted) t IsResponse mid new (Err fault)) next
        (says.in_state clean s seen.1 seen.0));
    shut = λ why e. open_not_shut _ why read.call.faults.0 e;
    any = says.any;
    to_batch = λ b e. batch_failed model old new wanted reads verdict b fault
        (later_batch read new IsResponse b verdict verdict (Err fault) (λ no. no) (says.to_batch b e));
  }
