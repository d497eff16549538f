-- What serving the clients of a listener guarantees, in real time.
use Rattle.std.specs.Prelude.{◌≡◌, List, [], ◌++◌, map}
use Rattle.streetmap_ledger.specs.State.{State}
use Rattle.streetmap_connections.specs.History.{Exchange, History}
use Rattle.streetmap_connections.specs.Interleaving.{IsInterleaving}
use Rattle.streetmap_connections.specs.Timeline.{Timeline}
use Rattle.streetmap_web.specs.Site.{SiteValue}
use Rattle.streetmap_guarantee.specs.Guarantee.{Guarantee, exchanges_of}

-- Clients were served by one thread: the requests of the history were answered in its order, along
-- one timeline of all that was read, answered and written.
pub record GuaranteeOfTown {Image : Type 0} (holds : Image → State → Type 0)
    (leaves : Image → Type 0) (site : SiteValue) (s : State) (connections : List History)
    : Type 0 where
  pub guarantee : Guarantee holds leaves site s connections
  pub timeline : Timeline [] (map (λ e. e.exchange) guarantee.history) connections

-- A moment of a timeline: the connections as they were, what had been answered by then, and what
-- was answered later.
pub record Moment (answered : List Exchange) (connections : List History) : Type 0 where
  pub then : List History
  pub before : List Exchange
  pub later : List Exchange
  pub is : answered ≡ before ++ later
  pub past : Timeline [] before then
  pub future : Timeline then later connections

-- What the connections had been answered by then is the first part of the history. So a request of
-- which no byte had come by then is answered after each whose answer had been sent by then.
abbrev pub IsInRealTime : List Exchange → List History → Type 0
IsInRealTime answered connections = (m : Moment answered connections)
    → IsInterleaving (map exchanges_of m.then) m.before
