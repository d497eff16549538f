-- How requests led from one keeper to another.
use Rattle.std.proofs.Common.{◌≡◌, true, false, List, [], ◌∷◌, ◌++◌, Bool, inl, inr, sym, subst, ap, ◌∙◌}
use Rattle.streetmap_http.specs.declared.fault.FramingFault.{FramingFault}
use Rattle.streetmap_batch.specs.Text.{Text}
use Rattle.streetmap_batch.specs.BatchValue.{BatchValue}
use Rattle.streetmap_ledger.specs.Model.{Model}
use Rattle.streetmap_ledger.specs.declared.reply.Fault.TheVariants.{Memory}
use Rattle.streetmap_routes.specs.Operations.{faulty, batch}
use Rattle.streetmap_bodies.specs.declared.request_fault.RequestFault.{RequestFault}
use Rattle.streetmap_bodies.specs.declared.request_fault.RequestFault.TheVariants.{Framing, Keeper}
use Rattle.streetmap_web.specs.Site.{SiteValue}
use Rattle.streetmap_web.specs.Response.{ResponseValue, RequestValue, AnswerSent, broken_request, fault_response, response_text, sent_so, sent_as}
use Rattle.streetmap_web.specs.Conditions.{Condition, RequestOutcome, as_requested, no_memory, answer_by, IsInCondition}
use Rattle.streetmap_web.specs.Responds.{ComesOut, AnswersOperation, RefusesBy, by_none, reads_tag}
use Rattle.streetmap_web.specs.Exchanges.{HttpExchange, condition_after, condition_after_all}
use Rattle.streetmap_web.specs.Transitions.{ComesAll}
use Rattle.streetmap_web.proofs.Standings.{as_requested_is_no_failure, no_memory_is_no_failure, fault_sent}
use Rattle.streetmap_web.proofs.Outcomes.{faulty_after, faulty_response, faulty_leaves, can_be_as_requested, no_memory_after, no_memory_leaves, no_memory_response, can_lack_memory}
use Rattle.streetmap_web.proofs.CallsInARow.{uncalled_itself, memory_may_fail}
use Rattle.streetmap_web.proofs.Statuses.{starved_well}

no_batch : (fault : RequestFault) (b : BatchValue) → faulty fault ≡ batch b → ⊥
no_batch fault b e = cc

module _ {K : Type 0} (model : Model K) (site : SiteValue) (x : Condition) where
  -- what was sent is the answer
  pub for_answer : (request : RequestValue) (outcome : RequestOutcome) (sent : AnswerSent) (old new : K) → ComesOut model site x request outcome sent old new
      → ComesOut model site x request outcome (sent_as request (answer_by site x request.wanted outcome)) old new
  for_answer request outcome sent old new one = subst (λ (s : AnswerSent). ComesOut model site x request outcome s old new) one.sent_is one

  -- memory ran out before the keeper was called
  pub starved_comes : (request : RequestValue) (sent : AnswerSent) (k : K) → sent ≡ sent_as request (fault_response (Keeper Memory)) → IsInCondition model k x
      → ComesOut model site x request no_memory sent k k
  starved_comes request sent k is h = record {
    can = can_lack_memory x request.wanted;
    sent_is = is ∙ ap (sent_as request) (sym (no_memory_response site x request.wanted));
    condition = no_memory_after x (IsInCondition model k) request.wanted h;
    leaves = no_memory_leaves x request.wanted (model.may_leave k);
    batch_answered = λ b e. by_none Memory (uncalled_itself model (reads_tag request.wanted) k) (memory_may_fail (reads_tag request.wanted)) is;
    device = λ e. absurd (no_memory_is_no_failure e);
    shuts = λ has_request e. absurd (starved_well (ap (λ (p : ResponseValue). p.status) (sym (no_memory_response site x request.wanted)) ∙ e));
  }

  -- a request that breaks a rule of framing calls no keeper
  broken_comes : (bare : Bool) (fault : FramingFault) (sent : AnswerSent) (k : K)
      → sent ≡ sent_as (broken_request bare fault) (fault_response (Framing fault)) → IsInCondition model k x
      → ComesOut model site x (broken_request bare fault) as_requested sent k k
  broken_comes bare fault sent k is h = record {
    can = can_be_as_requested x fault;
    sent_is = is ∙ ap (sent_as (broken_request bare fault)) (sym (faulty_response site x fault));
    condition = faulty_after x (IsInCondition model k) fault h;
    leaves = faulty_leaves x fault (model.may_leave k);
    batch_answered = λ b e. absurd (no_batch (Framing fault) b e);
    device = λ e. absurd (as_requested_is_no_failure e);
    shuts = λ has_request e. absurd (let bad : false ≡ true = has_request in cc);
  }

  -- it is answered with the rule, or memory ran out for that
  pub refused_comes : (text : Text) (bare : Bool) (fault : FramingFault) (k : K) → RefusesBy text bare fault → IsInCondition model k x
      → AnswersOperation model site x (broken_request bare fault) (sent_so text true) k k
  refused_comes text bare fault k (answer, inl is, same) h =
      let text_is : text ≡ response_text true bare (fault_response (Framing fault)) = same ∙ ap (λ f. response_text true bare (fault_response f)) is in
      (as_requested, broken_comes bare fault (sent_so text true) k (ap (λ (t : Text). sent_so t true) text_is) h)
  refused_comes text bare fault k (answer, inr is, same) h =
      let text_is : text ≡ response_text true bare (fault_response (Keeper Memory)) = same ∙ ap (λ f. response_text true bare (fault_response f)) is in
      (no_memory, starved_comes (broken_request bare fault) (sent_so text true) k (fault_sent (broken_request bare fault) Memory text text_is) h)

-- requests after others
pub comes_on : {K : Type 0} (model : Model K) (site : SiteValue) (x : Condition) (first mid last : K) (es fs : List HttpExchange)
    → ComesAll model site x first es mid → ComesAll model site (condition_after_all x es) mid fs last
    → ComesAll model site x first (es ++ fs) last
comes_on model site x first mid last [] fs before later = subst (λ k. ComesAll model site x k fs last) before later
comes_on model site x first mid last (e ∷ es) fs before later =
    (before.0, before.1, comes_on model site (condition_after x e) before.0 mid last es fs before.2 later)
