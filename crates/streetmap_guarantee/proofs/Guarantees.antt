-- Requests that were answered in turn, as what is guaranteed.
use Rattle.std.proofs.Common.{List, [], map, Option, Some, sym, subst}
use Rattle.std.specs.Prelude.{All}
use Rattle.streetmap_ledger.specs.State.{State}
use Rattle.streetmap_ledger.specs.Model.{Model}
use Rattle.streetmap_connections.specs.History.{History, Exchange}
use Rattle.streetmap_connections.specs.Interleaving.{IsInterleaving}
use Rattle.streetmap_web.specs.Site.{SiteValue}
use Rattle.streetmap_web.specs.Conditions.{of_state}
use Rattle.streetmap_web.specs.Exchanges as web
use Rattle.streetmap_web.specs.Transitions.{ComesAll}
use Rattle.streetmap_web.specs.ServedClients.{AnsweredInTurn}
use Rattle.streetmap_guarantee.specs.Server.{serving}
use Rattle.streetmap_guarantee.specs.Histories.{Event, IsSequential}
use Rattle.streetmap_guarantee.specs.Guarantee.{Guarantee, IsInOrder, RefusesForMemory, exchanges_of}
use Rattle.streetmap_guarantee.specs.Town.{GuaranteeOfTown}
use Rattle.streetmap_connections.specs.Timeline.{Timeline}
use Rattle.streetmap_guarantee.proofs.Histories.{history_of, last_server, exchanges_are, is_sequential, history_acts, page_of_state}
use Rattle.streetmap_guarantee.proofs.Crashes.{keeper_after_all, has_kept}

-- an image that a crash leaves holds a state that it may leave
abbrev pub LeavesStates : {Image : Type 0} → (Image → State → Type 0) → (Image → Type 0) → (Option State → Type 0) → Type 0
LeavesStates {Image} holds leaves may_leave = (image : Image) → leaves image → (t : State) × holds image t × may_leave (Some t)

module _ {K Image : Type 0} (model : Model K) (holds : Image → State → Type 0) (leaves : Image → Type 0) (site : SiteValue) (s : State) (old new : K)
    (represented : model.represents old s) (states : LeavesStates holds leaves (model.may_leave new)) where
  pub is_guaranteed : (connections : List History) (es : List Exchange) (ws : List web.HttpExchange) → All IsInOrder connections
      → All RefusesForMemory connections
      → IsInterleaving (map exchanges_of connections) es → AnsweredInTurn site (of_state s) es ws → ComesAll model site (of_state s) old ws new
      → Guarantee holds leaves site s connections
  is_guaranteed connections es ws in_order refused interleaved answered comes =
      let history : List Event = history_of site (serving s) es ws in
      let server = last_server (serving s) ws in
      let sequential : IsSequential site (serving s) history server = is_sequential site (serving s) es ws answered in
      let keeper = keeper_after_all model site (serving s) old new ws comes represented in
      record {
        history = history;
        in_order = in_order;
        refused = refused;
        interleaved = subst (IsInterleaving (map exchanges_of connections)) (sym (exchanges_are site (serving s) es ws answered)) interleaved;
        server = server;
        sequential = sequential;
        pages = λ before later e name q is has_request ok.
            page_of_state site (serving s) server before later e name q (subst (λ (l : List Event). IsSequential site (serving s) l server) is sequential)
            has_request ok;
        acts = history_acts site (serving s) server history sequential;
        survives = λ image left.
            let it = states image left in
            (it.0, it.1, has_kept model new server it.0 keeper it.2);
      }

  -- and in real time
  pub is_guaranteed_in_time : (connections : List History) (es : List Exchange) (ws : List web.HttpExchange) → All IsInOrder connections
      → All RefusesForMemory connections
      → IsInterleaving (map exchanges_of connections) es → AnsweredInTurn site (of_state s) es ws → ComesAll model site (of_state s) old ws new
      → Timeline [] es connections → GuaranteeOfTown holds leaves site s connections
  unfolding is_guaranteed
  is_guaranteed_in_time connections es ws in_order refused interleaved answered comes timeline = record {
    guarantee = is_guaranteed connections es ws in_order refused interleaved answered comes;
    timeline = subst (λ (l : List Exchange). Timeline [] l connections) (sym (exchanges_are site (serving s) es ws answered)) timeline;
  }
