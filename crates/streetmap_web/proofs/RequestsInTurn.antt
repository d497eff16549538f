-- Requests that were answered one after the other, by the keeper's condition.
use Rattle.std.proofs.Common.{◌≡◌, ℕ, List, [], ◌∷◌, Bool, refl, sym, subst, ◌∙◌, ap}
use Rattle.mio.specs.declared.net.stream.TcpStream.{TcpStream}
use Rattle.streetmap_batch.specs.Text.{Text}
use Rattle.streetmap_ledger.specs.Model.{Model}
use Rattle.streetmap_connections.specs.declared.slot.Slot.{Slot}
use Rattle.std.proofs.lemmas.List.Elements.{All-nil}
use Rattle.streetmap_connections.specs.Clients.{IsOrderly}
use Rattle.streetmap_connections.specs.History.{Exchange}
use Rattle.streetmap_connections.specs.Leads.{Leads}
use Rattle.streetmap_connections.specs.Services.{Serves}
use Rattle.streetmap_web.specs.Site.{SiteValue, site_value}
use Rattle.streetmap_web.specs.Transitions.{ComesAll}
use Rattle.streetmap_web.specs.Exchanges as web
use Rattle.streetmap_web.specs.Response.{AnswerSent, sent_so}
use Rattle.streetmap_web.specs.Refusals.{IsRefusal}
use Rattle.streetmap_web.specs.Conditions.{Condition, IsInCondition, ByCalls}
use Rattle.streetmap_web.specs.declared.site.Site.{Site}
use Rattle.streetmap_web.specs.declared.keeper_service.KeeperService.{KeeperService}
use Rattle.streetmap_web.specs.AnsweredRequests.{AnswersOne}
use Rattle.streetmap_web.specs.ServedClients.{AnsweredInTurn, IsAnswerTo, ServesClients, ServesInRow}
use Rattle.streetmap_connections.proofs.Interleavings.{same_goes_on}
use Rattle.streetmap_connections.proofs.InTurn.{in_turn_kept}
use Rattle.streetmap_connections.proofs.Timelines.{timeline_stays}
use Rattle.streetmap_web.proofs.Transitions.{for_answer}
use Rattle.streetmap_web.proofs.CallsInARow.{no_calls, calls_then}

-- what is true after these exchanges: each was answered in turn, and they led from the first keeper to the second
record IsAfter {K : Type 0} (model : Model K) (site : SiteValue) (x : Condition) (es : List Exchange) (old new : K) : Type 0 where
  requests : List web.HttpExchange
  answered : AnsweredInTurn site x es requests
  condition : IsInCondition model new (web.condition_after_all x requests)
  comes : ComesAll model site x old requests new

module _ {K W : Type 0} (model : Model K) where
  abbrev pub Answers : KeeperService K W → Text → Text → Bool → KeeperService K W → Type 0
  Answers old request text closes new = (new.site ≡ old.site) × AnswersOne model (site_value old.site) old.keeper request (sent_so text closes) new.keeper

  pub all_calls : (old new : KeeperService K W) (es : List Exchange) → Leads Answers old es new → ByCalls model old.keeper new.keeper
  all_calls old new [] l = subst (λ (k : KeeperService K W). ByCalls model old.keeper k.keeper) (sym l) (no_calls model old.keeper)
  all_calls old new (e ∷ es) l = calls_then model old.keeper l.0.keeper new.keeper l.1.1.calls (all_calls l.0 new es l.2)

  pub site_kept : (old new : KeeperService K W) (es : List Exchange) → Leads Answers old es new → new.site ≡ old.site
  site_kept old new [] l = ap (λ (k : KeeperService K W). k.site) l
  site_kept old new (e ∷ es) l = site_kept l.0 new es l.2 ∙ l.1.0

  in_turn : (old new : KeeperService K W) (es : List Exchange) → Leads Answers old es new → model.is_clean new.keeper → (x : Condition)
      → IsInCondition model old.keeper x
      → IsAfter model (site_value old.site) x es old.keeper new.keeper
  in_turn old new [] l clean x in_condition =
      let here : IsAfter model (site_value old.site) x [] old.keeper old.keeper
      = record { requests = []; answered = tt; condition = in_condition; comes = refl } in
      subst (λ (k : KeeperService K W). IsAfter model (site_value old.site) x [] old.keeper k.keeper) (sym l) here
  in_turn old new (e ∷ es) l clean x in_condition =
      let site = site_value old.site in
      let one = l.1.1.answered ((all_calls l.0 new es l.2).began_clean clean) x in_condition in
      let w = one.exchange in
      let came = one.comes_out in
      let next = web.condition_after x w in
      let rest = subst (λ (b : Site). IsAfter model (site_value b) next es l.0.keeper new.keeper) l.1.0 (in_turn l.0 new es l.2 clean next came.condition) in
      let is : IsAnswerTo site x e w = record {
        is = record { has_request = one.has_request; can = came.can };
        request = one.bytes_are;
        text = ap (λ (s : AnswerSent). s.text) came.sent_is;
        closes = ap (λ (s : AnswerSent). s.closes) came.sent_is;
      } in
      record {
        requests = w ∷ rest.requests;
        answered = (is, rest.answered);
        condition = rest.condition;
        comes = (l.0.keeper, for_answer model site x w.request w.outcome (sent_so e.text e.closes) old.keeper l.0.keeper came, rest.comes);
      }

  module _ (old new : KeeperService K W) (before after : List (Slot TcpStream)) (s : Serves Answers IsRefusal old new before after)
      (clean : model.is_clean new.keeper) where
    pub serves_clients : (x : Condition) → IsInCondition model old.keeper x → ServesClients model (site_value old.site) x old.keeper new.keeper before after
    serves_clients x in_condition =
        let turns = in_turn old new s.exchanges s.leads clean x in_condition in
        record {
          exchanges = s.exchanges;
          interleaved = s.interleaved;
          in_turn = s.in_turn;
          timeline = s.timeline;
          in_order = s.in_order;
          refused = s.refused;
          requests = turns.requests;
          answered = turns.answered;
          condition = turns.condition;
          comes = turns.comes;
        }

  -- nobody was served
  abbrev nothing_served : (kept : KeeperService K W) → Serves {S = TcpStream} Answers IsRefusal kept kept [] []
  nothing_served kept = record {
    exchanges = [];
    leads = refl;
    interleaved = same_goes_on _ _ refl;
    in_turn = in_turn_kept [] [] refl;
    timeline = timeline_stays [] [] refl;
    in_order = All-nil IsOrderly;
    refused = λ were. were;
  }

  pub none_in_row : (kept : KeeperService K W) → model.is_clean kept.keeper → (x : Condition) → IsInCondition model kept.keeper x → (count : ℕ) (Done : Type 0)
      → ¬ Done
      → ServesInRow model (site_value kept.site) x kept.keeper kept.keeper count Done
  unfolding serves_clients
  none_in_row kept clean x in_condition count Done none = record {
    before = [];
    after = [];
    nobody = refl;
    serves = serves_clients kept kept [] [] (nothing_served kept) clean x in_condition;
    in_row = refl;
    counted = λ done. absurd (none done);
  }
