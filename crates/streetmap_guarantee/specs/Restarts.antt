-- Runs of a server, with a crash between each two.
use Rattle.std.specs.Prelude.{◌≡◌, ◌≤◌, List, ◌++◌, length}
use Rattle.streetmap_batch.specs.BatchValue.{BatchValue}
use Rattle.streetmap_ledger.specs.State.{State}
use Rattle.streetmap_ledger.specs.Batches.{after_all}
use Rattle.streetmap_connections.specs.History.{History}
use Rattle.streetmap_web.specs.Site.{SiteValue}
use Rattle.streetmap_guarantee.specs.Guarantee.{Guarantee}
use Rattle.streetmap_guarantee.specs.Histories.{acknowledged}

-- One run: an image is opened, and connections are served from the state that it holds, whichever
-- that is. Then a crash follows, which leaves an image.
pub record Run {Image : Type 0} (holds : Image → State → Type 0) (site : SiteValue)
    (opened left : Image) : Type 1 where
  pub leaves : Image → Type 0
  pub connections : List History
  pub guarantee : (s : State) → holds opened s → Guarantee holds leaves site s connections
  pub crashed : leaves left

-- runs, each of which opens what the crash before it left
pub data Runs {Image : Type 0} (holds : Image → State → Type 0) (site : SiteValue)
    : (first last : Image) → Type 1 where
  none : {image : Image} → Runs holds site image image
  more : {first left last : Image} → Run holds site first left → Runs holds site left last
      → Runs holds site first last

-- From one state the runs led to another: each to the state after the batches that it acknowledged,
-- in the order of its history, and after at most one more, at which its store failed.
abbrev pub LeadTo : {Image : Type 0} {holds : Image → State → Type 0} {site : SiteValue}
    {first last : Image} → Runs holds site first last → State → State → Type 0
LeadTo none s t = t ≡ s
LeadTo {holds = holds} {first = first} (more run runs) s t =
    (held : holds first s) × (extra : List BatchValue) × (length extra ≤ 1)
    × LeadTo runs (after_all s (acknowledged (run.guarantee s held).history ++ extra)) t
