-- A request that was responded to, as its answer by the keeper's condition.
use Rattle.std.proofs.Common.{◌≡◌, inl, inr, Bool, true, false, refl, sym, ap, subst, ◌∙◌, Option, Some, IsSome, Result, Ok, Err}
use Rattle.std.specs.Prelude.{◌||◌}
use Rattle.streetmap_batch.specs.Text.{Text}
use Rattle.streetmap_ledger.specs.Model.{Model}
use Rattle.streetmap_ledger.specs.declared.reply.Cause.{Cause}
use Rattle.streetmap_ledger.specs.declared.reply.Cause.TheVariants as causes
use Rattle.streetmap_ledger.specs.declared.reply.Fault.{Fault}
use Rattle.streetmap_ledger.specs.declared.reply.Fault.TheVariants as faults
use Rattle.streetmap_web.specs.Site.{SiteValue}
use Rattle.streetmap_web.specs.Response.{ResponseValue, RequestValue, Wanted, needs_state, fault_response, closes_with, response_text, sent_so, sent_as}
use Rattle.streetmap_web.specs.Conditions.{Condition, of_state, shut, unknown, as_requested, no_memory, device_failed, of_keeper, IsInCondition}
use Rattle.streetmap_web.specs.Responds.{AnswersOperation, Answers, Responds, Sends, IsResponse, response_value, AnswersBatch, by_reply, by_fault, by_none, by_condition}
use Rattle.streetmap_web.specs.declared.response.Response.{Response}
use Rattle.streetmap_web.proofs.Statuses.{wanted_never_500, starved_well}
use Rattle.streetmap_connections.specs.Answers.{answer_text}
use Rattle.streetmap_connections.specs.declared.service.Answer.{Answer}
use Rattle.streetmap_bodies.specs.declared.request_fault.RequestFault.TheVariants.{Keeper}

or_true : (b : Bool) → true ≡ (b || true)
or_true true = refl
or_true false = refl

-- the connection closes after a keeper's fault
pub fault_closes : (requested : Bool) (fault : Fault) → true ≡ closes_with requested (fault_response (Keeper fault))
unfolding fault_response
fault_closes requested faults.Memory = or_true requested
fault_closes requested faults.Device = or_true requested
fault_closes requested faults.Damaged = or_true requested
fault_closes requested faults.Reopen = or_true requested

-- an answer, with its bytes and whether the connection closes after it
pub sent_of : (request : RequestValue) (p : ResponseValue) (text : Text) (closing : Bool) → closing ≡ closes_with request.closes p
    → text ≡ response_text closing request.bare p
    → sent_so text closing ≡ sent_as request p
sent_of request p text closing ends is = ap (λ (t : Text). sent_so t closing) is ∙ ap (λ (c : Bool). sent_so (response_text c request.bare p) c) ends

-- a keeper's fault
pub fault_sent : (request : RequestValue) (fault : Fault) (text : Text) → text ≡ response_text true request.bare (fault_response (Keeper fault))
    → sent_so text true ≡ sent_as request (fault_response (Keeper fault))
fault_sent request fault text is = sent_of request (fault_response (Keeper fault)) text true (fault_closes request.closes fault) is

pub as_requested_is_no_failure : as_requested ≡ device_failed → ⊥
as_requested_is_no_failure e = cc

pub no_memory_is_no_failure : no_memory ≡ device_failed → ⊥
no_memory_is_no_failure e = cc

of_keeper_is_no_failure : (shown : ResponseValue) → of_keeper shown ≡ device_failed → ⊥
of_keeper_is_no_failure shown e = cc

is_shut : (cause : Option Cause) (why : Cause) → cause ≡ Some why → IsSome cause
is_shut cause why e = subst (λ (o : Option Cause). IsSome o) (sym e) refl

-- ---- the response with its head

module _ {K : Type 0} (model : Model K) (site : SiteValue) (request : RequestValue) (old new : K) where
  -- what is wanted is what the request wants
  same_operation : {A : Type 0} (at : Text) (wanted : Wanted) (Is : A → ResponseValue → Type 0) (result : Result A Fault) → at ≡ site.root → wanted ≡ request.wanted
      → Responds model at wanted Is old new result → Responds model site.root request.wanted Is old new result
  same_operation at wanted Is result roots has_request says =
      subst (λ (a : Wanted). Responds model site.root a Is old new result) has_request (subst (λ (r : Text). Responds model r wanted Is old new result) roots says)

  pub response_sent : (at : Text) (wanted : Wanted) (response : Response) (r : Answer × Bool) → at ≡ site.root → wanted ≡ request.wanted
      → Responds model at wanted IsResponse old new (Ok response)
      → r.1 ≡ closes_with request.closes (response_value response) → answer_text r.0 ≡ response_text r.1 request.bare (response_value response)
      → Sends model site.root request old new (Ok r)
  response_sent at wanted response r roots has_request says closes text =
      let it = same_operation at wanted IsResponse (Ok response) roots has_request says in
      let sent : sent_so (answer_text r.0) r.1 ≡ sent_as request (response_value response) = sent_of request (response_value response) (answer_text r.0) r.1 closes text in
      record {
        calls = it.calls;
        in_state = λ clean s h.
            let said = it.in_state clean s h in
            (sent ∙ ap (sent_as request) said.0, said.1);
        shut = λ why e.
            let said = it.shut why e in
            (sent ∙ ap (sent_as request) said.0, said.1, said.2);
        any = (it.any.0, it.any.1, sent ∙ ap (sent_as request) it.any.2);
        to_batch = λ b e. elim (it.to_batch b e) [
          | inl said ↦ inl (said.0, said.1, said.2, said.3, sent ∙ ap (sent_as request) said.4)
          | inr said ↦ inr (said.0, said.1, said.2, sent ∙ ap (sent_as request) said.3)
        ];
      }

  -- a fault that is still to be answered
  pub fault_unsent : (at : Text) (wanted : Wanted) (fault : Fault) → at ≡ site.root → wanted ≡ request.wanted → Responds model at wanted IsResponse old new (Err fault)
      → Sends model site.root request old new (Err fault)
  fault_unsent at wanted fault roots has_request says =
      let it = same_operation at wanted IsResponse (Err fault) roots has_request says in
      record { calls = it.calls; in_state = it.in_state; shut = it.shut; any = it.any; to_batch = it.to_batch }

  -- ---- the answer by the keeper's condition

  ok_batch : (r : Answer × Bool) → Sends model site.root request old new (Ok r) → AnswersBatch model request (sent_so (answer_text r.0) r.1) old new
  ok_batch r says b e = elim (says.to_batch b e) [
    | inl said ↦ by_reply said.0 said.1 said.2 said.3 said.4
    | inr said ↦ by_condition said.0 said.1 said.2 said.3
  ]

  module _ (fault : Fault) (text : Text) (is : text ≡ response_text true request.bare (fault_response (Keeper fault))) where
    err_batch : Sends model site.root request old new (Err fault) → AnswersBatch model request (sent_so text true) old new
    err_batch says b e =
        let sent = fault_sent request fault text is in
        elim (says.to_batch b e) [
          | inl applied ↦ by_fault fault applied sent
          | inr uncalled ↦ by_none fault uncalled.0 uncalled.1 sent
        ]

    -- a fault of a keeper of which nothing is known
    fault_shown : (needs_state request.wanted.operation ≡ true) × IsSome (model.cause new) → Sends model site.root request old new (Err fault)
        → AnswersOperation model site unknown request (sent_so text true) old new
    fault_shown any says = (
      of_keeper (fault_response (Keeper fault)),
      record {
        can = any.0;
        sent_is = fault_sent request fault text is;
        condition = tt;
        leaves = tt;
        batch_answered = err_batch says;
        device = λ e. absurd (of_keeper_is_no_failure (fault_response (Keeper fault)) e);
        shuts = λ has_request e. any.1;
      },
    )

  ok_shown : (b : Bool) (r : Answer × Bool) → needs_state request.wanted.operation ≡ b → Sends model site.root request old new (Ok r)
      → AnswersOperation model site unknown request (sent_so (answer_text r.0) r.1) old new
  ok_shown false r plain says = (
    as_requested,
    record {
      can = plain;
      sent_is = says.any.2 ∙ ap (sent_as request) (says.any.1.0 plain);
      condition = tt;
      leaves = tt;
      batch_answered = ok_batch r says;
      device = λ e. absurd (as_requested_is_no_failure e);
      shuts = λ has_request e. absurd (let bad : false ≡ true = sym plain ∙ has_request in cc);
    },
  )
  ok_shown true r requesting says = (
    of_keeper says.any.0,
    record {
      can = requesting;
      sent_is = says.any.2;
      condition = tt;
      leaves = tt;
      batch_answered = ok_batch r says;
      device = λ e. absurd (of_keeper_is_no_failure says.any.0 e);
      shuts = λ has_request e. absurd (says.any.1.1 has_request e);
    },
  )

  ok_answers : (x : Condition) (r : Answer × Bool) → Sends model site.root request old new (Ok r) → model.is_clean new → IsInCondition model old x
      → AnswersOperation model site x request (sent_so (answer_text r.0) r.1) old new
  ok_answers (of_state s) r says clean h =
      let t = says.in_state clean s h in (
        as_requested,
        record {
          can = tt;
          sent_is = t.0;
          condition = t.1;
          leaves = tt;
          batch_answered = ok_batch r says;
          device = λ e. absurd (as_requested_is_no_failure e);
          shuts = λ has_request e. absurd (wanted_never_500 site.root s request.wanted has_request e);
        },
      )
  ok_answers (shut why) r says clean h =
      let t = says.shut why h in (
        as_requested,
        record {
          can = tt;
          sent_is = t.0;
          condition = t.1;
          leaves = t.2;
          batch_answered = ok_batch r says;
          device = λ e. absurd (as_requested_is_no_failure e);
          shuts = λ has_request e. is_shut (model.cause new) why t.1;
        },
      )
  ok_answers unknown r says clean h = ok_shown (needs_state request.wanted.operation) r refl says

  err_answers : (x : Condition) (fault : Fault) (text : Text) → Sends model site.root request old new (Err fault) → model.is_clean new → IsInCondition model old x
      → text ≡ response_text true request.bare (fault_response (Keeper fault)) → AnswersOperation model site x request (sent_so text true) old new
  err_answers (of_state s) faults.Memory text says clean h is = (
    no_memory,
    record {
      can = tt;
      sent_is = fault_sent request faults.Memory text is;
      condition = says.in_state clean s h;
      leaves = tt;
      batch_answered = err_batch faults.Memory text is says;
      device = λ e. absurd (no_memory_is_no_failure e);
      shuts = λ has_request e. absurd (starved_well e);
    },
  )
  err_answers (of_state s) faults.Device text says clean h is =
      let t = says.in_state clean s h in (
        device_failed,
        record {
          can = t.0;
          sent_is = fault_sent request faults.Device text is;
          condition = t.1;
          leaves = t.3;
          batch_answered = err_batch faults.Device text is says;
          device = λ e. t.2;
          shuts = λ has_request e. is_shut (model.cause new) causes.Device t.1;
        },
      )
  err_answers (of_state s) faults.Damaged text says clean h is = absurd (says.in_state clean s h)
  err_answers (of_state s) faults.Reopen text says clean h is = absurd (says.in_state clean s h)
  err_answers (shut why) faults.Memory text says clean h is =
      let t = says.shut why h in (
        no_memory,
        record {
          can = tt;
          sent_is = fault_sent request faults.Memory text is;
          condition = t.1;
          leaves = t.2;
          batch_answered = err_batch faults.Memory text is says;
          device = λ e. absurd (no_memory_is_no_failure e);
          shuts = λ has_request e. absurd (starved_well e);
        },
      )
  err_answers (shut why) faults.Device text says clean h is = absurd (says.shut why h).0
  err_answers (shut why) faults.Damaged text says clean h is = absurd (says.shut why h).0
  err_answers (shut why) faults.Reopen text says clean h is =
      let t = says.shut why h in (
        as_requested,
        record {
          can = tt;
          sent_is = fault_sent request faults.Reopen text is ∙ ap (sent_as request) (sym t.0);
          condition = t.1;
          leaves = t.2;
          batch_answered = err_batch faults.Reopen text is says;
          device = λ e. absurd (as_requested_is_no_failure e);
          shuts = λ has_request e. is_shut (model.cause new) why t.1;
        },
      )
  err_answers unknown faults.Memory text says clean h is = (
    no_memory,
    record {
      can = tt;
      sent_is = fault_sent request faults.Memory text is;
      condition = tt;
      leaves = tt;
      batch_answered = err_batch faults.Memory text is says;
      device = λ e. absurd (no_memory_is_no_failure e);
      shuts = λ has_request e. absurd (starved_well e);
    },
  )
  err_answers unknown faults.Device text says clean h is = fault_shown faults.Device text is says.any says
  err_answers unknown faults.Damaged text says clean h is = fault_shown faults.Damaged text is says.any says
  err_answers unknown faults.Reopen text says clean h is = fault_shown faults.Reopen text is says.any says

  pub ok_answered : (r : Answer × Bool) → Sends model site.root request old new (Ok r) → Answers model site request (sent_so (answer_text r.0) r.1) old new
  ok_answered r says = record {
    calls = says.calls;
    answered = λ clean x h. ok_answers x r says clean h;
    batch_answered = ok_batch r says;
  }

  pub err_answered : (fault : Fault) (text : Text) → Sends model site.root request old new (Err fault)
      → text ≡ response_text true request.bare (fault_response (Keeper fault))
      → Answers model site request (sent_so text true) old new
  err_answered fault text says is = record {
    calls = says.calls;
    answered = λ clean x h. err_answers x fault text says clean h is;
    batch_answered = err_batch fault text is says;
  }
