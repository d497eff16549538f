-- What is guaranteed of a stream of requests.
use Rattle.std.specs.Prelude.{[], ◌∷◌, Option}
use Rattle.std.specs.Io.KnownBytes.{Consumes, Appends}
use Rattle.streetmap_batch.specs.Text.{Text}
use Rattle.streetmap_ledger.specs.State.{State}
use Rattle.streetmap_connections.specs.History.{History, requests_of}
use Rattle.streetmap_web.specs.Site.{SiteValue}
use Rattle.streetmap_web.specs.StreamEnds.{EndsSo}
use Rattle.streetmap_web.specs.declared.turns.End.{End}
use Rattle.streetmap_guarantee.specs.Guarantee.{Guarantee}

-- A stream was served as one connection: the reader gave its requests, in order, the writer got
-- what was sent, and the stream ended in this way.
pub record GuaranteeOfStream {Image : Type 0} (holds : Image → State → Type 0)
    (leaves : Image → Type 0) (site : SiteValue) (s : State) (end : End)
    (input_before input_after output_before output_after : Option Text) : Type 0 where
  pub connection : History
  pub left : Option Text
  pub read : Consumes input_before left (requests_of connection.exchanges)
  pub written : Appends output_before output_after connection.sent
  pub ends : EndsSo end connection.closes connection.unsent left input_after
  pub guarantee : Guarantee holds leaves site s (connection ∷ [])
