-- From what was read, answered and sent to what a turn did.
use Rattle.std.proofs.Common.{◌≡◌, ◌<◌, ◌+◌, ◌-◌, arith, ◌++◌, length, Bool, true, false, refl, sym, subst, ap}
use Rattle.std.specs.Prelude.{Option}
use Rattle.std.specs.Io.KnownBytes.{Consumes, IsAtEnd}
use Rattle.std.proofs.KnownBytes.{Keeps-refl}
use Rattle.streetmap_http.specs.Head.{IsHead, IsBlank}
use Rattle.streetmap_http.specs.Streams.{IsUnfinished, in_body}
use Rattle.streetmap_http.specs.Framing.{HeadValue, Frames, sized, Breaks}
use Rattle.streetmap_http.specs.SentAnswers.{SentSays}
use Rattle.streetmap_http.specs.declared.fault.FramingFault.{FramingFault}
use Rattle.streetmap_http.specs.declared.sender.Sent.{Sent}
use Rattle.streetmap_http.specs.declared.sender.Sent.TheVariants.{Whole, Part}
use Rattle.streetmap_batch.specs.Text.{Text}
use Rattle.streetmap_ledger.specs.Model.{Model}
use Rattle.streetmap_ledger.specs.declared.reply.Fault.TheVariants.{Memory}
use Rattle.streetmap_bodies.specs.declared.request_fault.RequestFault.TheVariants.{Keeper}
use Rattle.streetmap_web.specs.Site.{SiteValue}
use Rattle.streetmap_web.specs.Response.{RequestValue, AnswerSent, request_of, broken_request, fault_response, response_text, sent_so}
use Rattle.streetmap_web.specs.Conditions.{Condition, no_memory, IsInCondition}
use Rattle.streetmap_web.specs.Responds.{ComesOut, AnswersOperation}
use Rattle.streetmap_web.specs.Turns.{turn_after, WriteSays, RefuseSays}
use Rattle.streetmap_web.specs.Exchanges.{HttpExchange, HasRequest, whole, broken, closes, answer_bytes, sent_for}
use Rattle.streetmap_web.specs.ServedStream.{around, Acted, TurnComes}
use Rattle.streetmap_web.specs.declared.turns.Turn.{Turn}
use Rattle.streetmap_web.specs.declared.turns.Turn.TheVariants.{Ended, Truncated, ReadFailed}
use Rattle.streetmap_web.proofs.Standings.{fault_sent}
use Rattle.streetmap_web.proofs.Transitions.{for_answer, starved_comes, refused_comes}

-- a head and less than its body
pub unfinished_body : (head came : Text) (h : HeadValue) → IsHead head → Frames head (sized h) → length came < h.len → IsUnfinished (head ++ came)
unfinished_body head came h cut framed short =
    let some : 0 < h.len - length came = omega arith in
    let whole : length came + (h.len - length came) ≡ h.len = omega arith in
    in_body (h.len - length came) some (record { head = head; came = came; value = h; parts = refl; cut = cut; framed = framed; len = whole })

module _ {K : Type 0} (model : Model K) (site : SiteValue) (x : Condition) (left rest : Option Text) where
  -- an exchange that was acted on, and how its answer was sent
  written_turn : (e : HttpExchange) (closing : Bool) (text : Text) (sent : Sent) (flushed : Bool) (held now : Option Text) (old new : K)
      → Acted model site x e (around left rest held now) new → ComesOut model site x e.request e.outcome (sent_for site x e) old new
      → closing ≡ closes site x e → text ≡ answer_bytes site x e → SentSays sent text held now
      → TurnComes model (turn_after sent flushed closing) site x (around left rest held now) old new
  written_turn e true text Whole true held now old new acted one closed same written =
      ((e, acted, subst (λ t. SentSays Whole t held now) same written, sym closed), (new, one, refl))
  written_turn e false text Whole true held now old new acted one closed same written =
      ((e, acted, subst (λ t. SentSays Whole t held now) same written, sym closed), (new, one, refl))
  written_turn e closing text Whole false held now old new acted one closed same written =
      ((e, acted, subst (λ t. SentSays Whole t held now) same written), (new, one, refl))
  written_turn e closing text (Part begun) flushed held now old new acted one closed same written =
      let w : SentSays (Part begun) (answer_bytes site x e) held now = subst (λ t. SentSays (Part begun) t held now) same written in
      ((e, acted, w.0, w.1, w.2, w.3), (new, one, refl))

  -- an exchange with this outcome
  sent_turn : (e : HttpExchange) (text : Text) (closing : Bool) (turn : Turn) (held now : Option Text) (old new : K)
      → HasRequest site e → Consumes left rest e.bytes → ComesOut model site x e.request e.outcome (sent_so text closing) old new
      → WriteSays turn text closing held now → TurnComes model turn site x (around left rest held now) old new
  sent_turn e text closing turn held now old new has_request read one (sent, flushed, turned, written) =
      let acted : Acted model site x e (around left rest held now) new = record {
        is = record { has_request = has_request; can = one.can };
        read = read;
        in_condition = one.condition;
      } in
      subst (λ t. TurnComes model t site x (around left rest held now) old new) (sym turned)
      (written_turn e closing text sent flushed held now old new acted (for_answer model site x e.request e.outcome (sent_so text closing) old new one)
      (ap (λ (s : AnswerSent). s.closes) one.sent_is) (ap (λ (s : AnswerSent). s.text) one.sent_is) written)

  -- a whole request that was answered
  pub answered_turn : (h : HeadValue) (head body text : Text) (closing : Bool) (turn : Turn) (held now : Option Text) (old new : K)
      → IsHead head → Frames head (sized h) → length body ≡ h.len → Consumes left rest (head ++ body)
      → AnswersOperation model site x (request_of site h body) (sent_so text closing) old new → WriteSays turn text closing held now
      → TurnComes model turn site x (around left rest held now) old new
  answered_turn h head body text closing turn held now old new cut framed len read (outcome, one) written =
      let e : HttpExchange = record { bytes = head ++ body; request = request_of site h body; outcome = outcome } in
      let has_request : HasRequest site e = whole h body (record { head = head; parts = refl; cut = cut; framed = framed; len = len }) refl in
      sent_turn e text closing turn held now old new has_request read one written

  module _ (k : K) (in_condition : IsInCondition model k x) where
    -- memory ran out before the request was acted on
    pub starved_turn : (bytes text : Text) (request : RequestValue) (turn : Turn) (held now : Option Text)
        → HasRequest site (record { bytes = bytes; request = request; outcome = no_memory }) → Consumes left rest bytes
        → text ≡ response_text true request.bare (fault_response (Keeper Memory)) → WriteSays turn text true held now
        → TurnComes model turn site x (around left rest held now) k k
    starved_turn bytes text request turn held now has_request read same written =
        let e : HttpExchange = record { bytes = bytes; request = request; outcome = no_memory } in
        sent_turn e text true turn held now k k has_request read
        (starved_comes model site x request (sent_so text true) k (fault_sent request Memory text same) in_condition) written

    -- the answer to a broken rule, as it was sent
    pub refuse_says : (bytes : Text) (bare : Bool) (fault : FramingFault) (turn : Turn) (held now : Option Text) → Breaks bytes bare fault
        → Consumes left rest bytes
        → RefuseSays turn bare fault held now → TurnComes model turn site x (around left rest held now) k k
    refuse_says bytes bare fault turn held now breaks read (answer, why, written) =
        let text = response_text true bare (fault_response answer) in
        let (outcome, one) = refused_comes model site x text bare fault k (answer, why, refl) in_condition in
        let e : HttpExchange = record { bytes = bytes; request = broken_request bare fault; outcome = outcome } in
        sent_turn e text true turn held now k k (broken bare fault breaks refl) read one written

    -- ---- turns without an answer

    pub ended_turn : (bytes : Text) (held : Option Text) → IsBlank bytes → Consumes left rest bytes → IsAtEnd rest
        → TurnComes model Ended site x (around left rest held held) k k
    ended_turn bytes held blank read end =
        ((record { written = Keeps-refl held; in_condition = in_condition }, bytes, blank, read, end), refl)

    pub truncated_turn : (bytes : Text) (held : Option Text) → IsUnfinished bytes → Consumes left rest bytes → IsAtEnd rest
        → TurnComes model Truncated site x (around left rest held held) k k
    truncated_turn bytes held unfinished read end =
        ((record { written = Keeps-refl held; in_condition = in_condition }, bytes, unfinished, read, end), refl)

    pub unread_turn : (held : Option Text) → TurnComes model ReadFailed site x (around left rest held held) k k
    unread_turn held = (record { written = Keeps-refl held; in_condition = in_condition }, refl)
