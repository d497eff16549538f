-- Many clients served over one keeper.
use Rattle.std.specs.Prelude.{◌≡◌, ◌≤◌, ℕ, List, [], ◌∷◌, length, map, flat_map, All, ⊤}
use Rattle.mio.specs.declared.net.stream.TcpStream.{TcpStream}
use Rattle.streetmap_ledger.specs.Model.{Model}
use Rattle.streetmap_connections.specs.declared.slot.Slot.{Slot}
use Rattle.streetmap_connections.specs.Clients.{exchanges_of, IsOrderly}
use Rattle.streetmap_connections.specs.History.{Exchange}
use Rattle.streetmap_connections.specs.InTurn.{IsInTurn}
use Rattle.streetmap_connections.specs.Interleaving.{GoesOnAs}
use Rattle.streetmap_connections.specs.RefusedRequests.{AreRefused}
use Rattle.streetmap_connections.specs.Slots.{clients_in, ended_in, histories_in, refusals_in}
use Rattle.streetmap_connections.specs.Timeline.{Timeline}
use Rattle.streetmap_web.specs.Transitions.{ComesAll}
use Rattle.streetmap_web.specs.Exchanges as web
use Rattle.streetmap_web.specs.Refusals.{IsRefusal}
use Rattle.streetmap_web.specs.Site.{SiteValue}
use Rattle.streetmap_web.specs.Conditions.{Condition, IsInCondition}

-- the exchange is this request of the web, answered by a keeper in this condition
pub record IsAnswerTo (site : SiteValue) (x : Condition) (e : Exchange) (w : web.HttpExchange)
    : Type 0 where
  pub is : web.IsExchange site x w
  pub request : w.bytes ≡ e.request
  pub text : e.text ≡ web.answer_bytes site x w
  pub closes : e.closes ≡ web.closes site x w

-- The exchanges are these requests of the web, one by one, and each was answered according to the
-- keeper's condition after the one before.
abbrev pub AnsweredInTurn : SiteValue → Condition → List Exchange → List web.HttpExchange → Type 0
AnsweredInTurn site x [] [] = ⊤
AnsweredInTurn site x [] (w ∷ ws) = ⊥
AnsweredInTurn site x (e ∷ es) [] = ⊥
AnsweredInTurn site x (e ∷ es) (w ∷ ws) = IsAnswerTo site x e w
    × AnsweredInTurn site (web.condition_after x w) es ws

-- All requests with their answers are one list, each answered according to the keeper's
-- condition after the one before. It is an interleaving of the clients' own lists: it goes on from
-- those before as one of those after. The clients of each slot were answered in turn: each to its
-- end before the next was answered at all. They were answered in this way along one timeline of all
-- that was read and written. What a client sent is, in order, the requests of its list and what was
-- not answered; what was sent to it are their answers, as far as they were sent, and then at most
-- the refusal of a request for which memory ran out: the fixed answer 503. These requests led from
-- the first keeper to the second: each batch was answered by the result of `apply`, or the keeper
-- was never called for it, and of each request it is said what a crash may leave after it.
pub record ServesClients {K : Type 0} (model : Model K) (site : SiteValue) (x : Condition)
    (old new : K) (before after : List (Slot TcpStream)) : Type 0 where
  pub exchanges : List Exchange
  pub interleaved : GoesOnAs (map exchanges_of (flat_map clients_in before)) exchanges
      (map exchanges_of (flat_map clients_in after))
  pub in_turn : IsInTurn before exchanges after
  pub timeline : Timeline (histories_in before) exchanges (histories_in after)
  pub in_order : All IsOrderly (flat_map clients_in after)
  pub refused : AreRefused IsRefusal (flat_map refusals_in before)
      → AreRefused IsRefusal (flat_map refusals_in after)
  pub requests : List web.HttpExchange
  pub answered : AnsweredInTurn site x exchanges requests
  pub condition : IsInCondition model new (web.condition_after_all x requests)
  pub comes : ComesAll model site x old requests new

-- The clients of one place that was empty before: they were served one after the other. The
-- requests are those of the clients' own lists, one list after the other, in the order in which the
-- clients were admitted. If the call is done, at least that number of them ended.
pub record ServesInRow {K : Type 0} (model : Model K) (site : SiteValue) (x : Condition)
    (old new : K) (count : ℕ) (Done : Type 0) : Type 0 where
  pub before : List (Slot TcpStream)
  pub after : List (Slot TcpStream)
  pub nobody : flat_map clients_in before ≡ []
  pub serves : ServesClients model site x old new before after
  pub in_row : serves.exchanges ≡ flat_map exchanges_of (flat_map clients_in after)
  pub counted : Done → count ≤ length (ended_in after)
