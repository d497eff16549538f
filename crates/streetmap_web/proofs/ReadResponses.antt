-- The response to a request, by the one call of the keeper that it takes, if it takes one.
use Rattle.std.proofs.Common.{◌≡◌, ℕ, true, false, ap, sym, subst, refl, ◌∙◌, Option, Some, None, IsSome, Ok, Err, inl, inr, IfOk, OnErr}
use Rattle.std.specs.Prelude.{Result}
use Rattle.std.specs.declared.alloc.AllocError.{AllocError}
use Rattle.streetmap_batch.specs.Text.{Text}
use Rattle.streetmap_batch.specs.BatchValue.{BatchValue}
use Rattle.streetmap_ledger.specs.declared.reply.Cause.{Cause}
use Rattle.streetmap_ledger.specs.declared.reply.Cause.TheVariants as causes
use Rattle.streetmap_ledger.specs.State.{State}
use Rattle.streetmap_ledger.specs.Model.{Model}
use Rattle.streetmap_ledger.specs.Keep.{Reads, Writes, IsCall, IsRead, IsWrite, LeavesSame}
use Rattle.streetmap_ledger.specs.declared.reply.Fault.{Fault}
use Rattle.streetmap_ledger.specs.declared.reply.Fault.TheVariants as faults
use Rattle.streetmap_ledger.specs.declared.reply.Reply.{Reply}
use Rattle.streetmap_query.specs.QueryValue.{QueryValue}
use Rattle.streetmap_routes.specs.Operations.{OperationValue, faulty, landing_page, api_text, conformance_classes, all_collections, one_collection, page, feature, changes, service_status, batch}
use Rattle.streetmap_bodies.specs.declared.request_fault.RequestFault.{RequestFault}
use Rattle.streetmap_bodies.specs.declared.request_fault.RequestFault.TheVariants.{Keeper}
use Rattle.streetmap_ledger.specs.Batches.{act}
use Rattle.streetmap_web.specs.Response.{ResponseValue, Wanted, plainly, needs_state, response_in, response_shut, state_in, fault_response, replied}
use Rattle.streetmap_web.specs.Responds.{Responds, RespondsToBatch, reads_tag, FaultsIn, FaultsShut, FaultsAny, IsResponse, response_value}
use Rattle.streetmap_web.specs.declared.response.Response.{Response}
use Rattle.streetmap_web.proofs.CallsInARow.{no_calls, by_call, uncalled_itself, memory_may_fail}
use Rattle.streetmap_web.proofs.Statuses.{reply_well}
use Rattle.streetmap_web.specs.Judging.{tag_after}
use Rattle.streetmap_web.proofs.Verdicts.{serial_of}

-- no open keeper is shut
pub open_not_shut : {A : Type 0} (cause : Option Cause) (why : Cause) → cause ≡ None → cause ≡ Some why → A
open_not_shut cause why none some = absurd (let bad : ◌≡◌ {A = Option Cause} None (Some why) = sym none ∙ some in cc)

is_shut : (cause : Option Cause) (why : Cause) → cause ≡ Some why → IsSome cause
is_shut cause why e = subst (λ (o : Option Cause). IsSome o) (sym e) refl

-- memory ran out before the keeper was called
pub not_called : {K A : Type 0} (model : Model K) (root : Text) (wanted : Wanted) (Is : A → ResponseValue → Type 0) (k : K)
    → Responds model root wanted Is k k (Err faults.Memory)
not_called model root wanted Is k = record {
  calls = no_calls model k;
  in_state = λ clean s h. h;
  shut = λ why e. (tt, e, λ o. (λ left. left, λ left. left));
  any = tt;
  to_batch = λ b e. inr (uncalled_itself model (reads_tag wanted) k, memory_may_fail (reads_tag wanted));
}

-- ---- a request that needs no state

-- it is answered as a shut keeper answers it, whatever the keeper's condition is
pub record NeedsNothing (root : Text) (operation : OperationValue) : Type 0 where
  pub plain : needs_state operation ≡ false
  pub same : (s : State) → response_shut root operation ≡ response_in root s operation
  pub stays : (s : State) → state_in s operation ≡ s
  pub no_batch : (b : BatchValue) → operation ≡ batch b → ⊥

pub faulty_plain : (root : Text) (fault : RequestFault) → NeedsNothing root (faulty fault)
faulty_plain root fault = record { plain = refl; same = λ s. refl; stays = λ s. refl; no_batch = λ b e. cc }

pub landing_plain : (root : Text) → NeedsNothing root landing_page
landing_plain root = record { plain = refl; same = λ s. refl; stays = λ s. refl; no_batch = λ b e. cc }

pub api_plain : (root : Text) → NeedsNothing root api_text
api_plain root = record { plain = refl; same = λ s. refl; stays = λ s. refl; no_batch = λ b e. cc }

pub conformance_plain : (root : Text) → NeedsNothing root conformance_classes
conformance_plain root = record { plain = refl; same = λ s. refl; stays = λ s. refl; no_batch = λ b e. cc }

module _ {K : Type 0} (model : Model K) (root : Text) (requested operation : OperationValue) (k : K) (is : requested ≡ operation) (needs : NeedsNothing root operation) where
  -- memory may have run out for the response
  pub plain_responds : (found : Result Response AllocError) (result : Result Response Fault) → IfOk found (λ b. response_value b ≡ response_shut root operation)
      → IfOk found (λ b. result ≡ Ok b) → OnErr found (result ≡ Err faults.Memory) → Responds model root (plainly requested) IsResponse k k result
  plain_responds (Ok b) result shown same none =
      let at_operation : Responds model root (plainly operation) IsResponse k k (Ok b) = record {
        calls = no_calls model k;
        in_state = λ clean s h. (shown ∙ needs.same s, subst (model.represents k) (sym (needs.stays s)) h);
        shut = λ why e. (shown, e, λ o. (λ left. left, λ left. left));
        any = (response_shut root operation, (λ plain. refl, λ has_request. absurd (let bad : false ≡ true = sym needs.plain ∙ has_request in cc)), shown);
        to_batch = λ c e. absurd (needs.no_batch c e);
      } in
      subst (λ r. Responds model root (plainly requested) IsResponse k k r) (sym same) (subst (λ (a : OperationValue). Responds model root (plainly a) IsResponse k k (Ok b)) (sym is) at_operation)
  plain_responds (Err w) result shown same none =
      subst (λ r. Responds model root (plainly requested) IsResponse k k r) (sym none) (not_called model root (plainly requested) IsResponse k)

-- ---- a call that failed

module _ {K T : Type 0} {model : Model K} {old new : K} (root : Text) (operation : OperationValue) (has_request : needs_state operation ≡ true) where
  pub shut_by : (fault : Fault) (why : Cause) → response_shut root operation ≡ fault_response (Keeper faults.Reopen) → model.cause old ≡ Some why
      → IsCall {T = T} model old new (Err fault)
      → FaultsShut root operation fault × (model.cause new ≡ Some why) × LeavesSame (model.may_leave old) (model.may_leave new)
  shut_by faults.Memory why says e call = open_not_shut _ why call.faults.0 e
  shut_by faults.Device why says e call = open_not_shut _ why call.faults.0 e
  shut_by faults.Damaged why says e call = open_not_shut _ why call.faults.0 e
  shut_by faults.Reopen why says e call = (says, call.faults.1 ∙ e, call.reopen refl)

  pub any_by : (fault : Fault) → IsCall {T = T} model old new (Err fault) → FaultsAny operation fault (model.cause new)
  any_by faults.Memory call = tt
  any_by faults.Device call = (has_request, is_shut _ causes.Device call.faults.1)
  any_by faults.Damaged call = (has_request, is_shut _ causes.Damaged call.faults.1)
  any_by faults.Reopen call = (has_request, subst (λ (o : Option Cause). IsSome o) (sym call.faults.1) call.faults.0)

  pub read_in : (fault : Fault) (s next : State) (Is : T → Type 0) → IsCall {T = T} model old new (Err fault) → Reads model old new s Is (Err fault)
      → FaultsIn model s operation next old new fault
  read_in faults.Memory s next Is call reads = reads
  read_in faults.Device s next Is call reads = (has_request, call.faults.1, reads.0, λ o left. inl (reads.1 o left))
  read_in faults.Damaged s next Is call reads = reads
  read_in faults.Reopen s next Is call reads = reads

-- ---- a request that takes one read

pub record NeedsRead (root : Text) (operation : OperationValue) : Type 0 where
  pub has_request : needs_state operation ≡ true
  pub shut : response_shut root operation ≡ fault_response (Keeper faults.Reopen)
  pub stays : (s : State) → state_in s operation ≡ s
  pub no_batch : (b : BatchValue) → operation ≡ batch b → ⊥

pub page_reads : (root name : Text) (query : QueryValue) → NeedsRead root (page name query)
page_reads root name query = record { has_request = refl; shut = refl; stays = λ s. refl; no_batch = λ b e. cc }

pub feature_reads : (root name id : Text) → NeedsRead root (feature name id)
feature_reads root name id = record { has_request = refl; shut = refl; stays = λ s. refl; no_batch = λ b e. cc }

pub status_reads : (root : Text) → NeedsRead root service_status
status_reads root = record { has_request = refl; shut = refl; stays = λ s. refl; no_batch = λ b e. cc }

pub changes_read : (root : Text) (after limit : ℕ) → NeedsRead root (changes after limit)
changes_read root after limit = record { has_request = refl; shut = refl; stays = λ s. refl; no_batch = λ b e. cc }

pub collection_reads : (root name : Text) → NeedsRead root (one_collection name)
collection_reads root name = record { has_request = refl; shut = refl; stays = λ s. refl; no_batch = λ b e. cc }

pub collections_read : (root : Text) → NeedsRead root all_collections
collections_read root = record { has_request = refl; shut = refl; stays = λ s. refl; no_batch = λ b e. cc }

module _ {K : Type 0} {model : Model K} {old new : K} (root : Text) (operation : OperationValue) (needs : NeedsRead root operation) where
  -- it was answered, unless memory ran out for the response
  pub found_responds : {T : Type 0} {x : T} {Is : State → T → Type 0} (found : Result Response AllocError) (result : Result Response Fault) (p : ResponseValue)
      → IsRead model old new (Ok x) Is → IfOk found (λ b. response_value b ≡ p) → IfOk found (λ b. result ≡ Ok b) → OnErr found (result ≡ Err faults.Memory)
      → ((s : State) → Is s x → p ≡ response_in root s operation) → (p.status ≡ 500 → ⊥) → Responds model root (plainly operation) IsResponse old new result
  found_responds (Ok b) result p read is same none so well = subst (λ r. Responds model root (plainly operation) IsResponse old new r) (sym same) (record {
    calls = by_call read.call;
    in_state = λ clean s h.
        let found = read.reads clean s h in
        (is ∙ so s found.0, subst (model.represents new) (sym (needs.stays s)) found.1);
    shut = λ why e. open_not_shut _ why read.call.faults.0 e;
    any = (p, (λ plain. absurd (let bad : true ≡ false = sym needs.has_request ∙ plain in cc), λ has_request e. well e), is);
    to_batch = λ c e. absurd (needs.no_batch c e);
  })
  found_responds (Err w) result p read is same none so well = subst (λ r. Responds model root (plainly operation) IsResponse old new r) (sym none) (record {
    calls = by_call read.call;
    in_state = λ clean s h. (read.reads clean s h).1;
    shut = λ why e. open_not_shut _ why read.call.faults.0 e;
    any = tt;
    to_batch = λ c e. absurd (needs.no_batch c e);
  })

  -- the read failed
  pub failed_responds : {T : Type 0} {Is : State → T → Type 0} (fault : Fault) → IsRead {T = T} model old new (Err fault) Is
      → Responds model root (plainly operation) IsResponse old new (Err fault)
  failed_responds {T} {Is} fault read = record {
    calls = by_call read.call;
    in_state = λ clean s h. read_in root operation needs.has_request fault s (state_in s operation) (Is s) read.call (read.reads clean s h);
    shut = λ why e. shut_by root operation needs.has_request fault why needs.shut e read.call;
    any = any_by root operation needs.has_request fault read.call;
    to_batch = λ c e. absurd (needs.no_batch c e);
  }

-- ---- a batch

-- the same batch
to_same : {A : Type 0} (b c : BatchValue) (wanted : Wanted) (Is : A → ResponseValue → Type 0) (result : Result A Fault)
    (applies : BatchValue → Result Reply Fault → Type 0) (uncalled : Type 0)
    → batch b ≡ batch c → RespondsToBatch b.key wanted Is result (applies b) uncalled → RespondsToBatch c.key wanted Is result (applies c) uncalled
to_same b c wanted Is result applies uncalled e h =
    let same : b ≡ c = cc in subst (λ (d : BatchValue). RespondsToBatch d.key wanted Is result (applies d) uncalled) same h

module _ {K : Type 0} {model : Model K} {old new : K} (root : Text) (b : BatchValue) where
  -- the keeper's reply is the response
  pub reply_responds : (reply : Reply) (response : Response) → IsWrite model old new b (Ok reply) → response_value response ≡ replied b.key reply
      → Responds model root (plainly (batch b)) IsResponse old new (Ok response)
  reply_responds reply response write is = record {
    calls = by_call write.call;
    in_state = λ clean s h.
        let acted = write.writes clean s h in
        (is ∙ ap (replied b.key) acted.0, acted.1);
    shut = λ why e. open_not_shut _ why write.call.faults.0 e;
    any = (replied b.key reply, (λ plain. absurd (let bad : true ≡ false = plain in cc), λ has_request e. reply_well b.key reply e), is);
    to_batch = λ c e.
        to_same b c (plainly (batch b)) IsResponse (Ok response) (λ d r. model.applies old d r new) (new ≡ old) e
        (inl (reply, replied b.key reply, write.applied, (tag_after 0 reply, serial_of 0 reply, refl), is));
  }

  pub write_in : (fault : Fault) (s : State) → IsCall {T = Reply} model old new (Err fault) → Writes model old new s b (Err fault)
      → FaultsIn model s (batch b) (act s b).state old new fault
  write_in faults.Memory s call writes = writes
  write_in faults.Device s call writes = (refl, call.faults.1, writes.0, writes.1)
  write_in faults.Damaged s call writes = writes
  write_in faults.Reopen s call writes = writes

  -- or its fault is to be answered
  pub fault_responds : (fault : Fault) → IsWrite model old new b (Err fault) → Responds model root (plainly (batch b)) IsResponse old new (Err fault)
  fault_responds fault write = record {
    calls = by_call write.call;
    in_state = λ clean s h. write_in fault s write.call (write.writes clean s h);
    shut = λ why e. shut_by root (batch b) refl fault why refl e write.call;
    any = any_by root (batch b) refl fault write.call;
    to_batch = λ c e. to_same {A = Response} b c (plainly (batch b)) IsResponse (Err fault) (λ d r. model.applies old d r new) (new ≡ old) e (inl write.applied);
  }
