-- What holds of heads and streams, whatever the code does.
use Rattle.std.specs.Prelude.{◌≡◌, Bool, false, Option, Some, None, IfSome, take, ℕ, ◌+◌, ◌-◌, ◌<◌}
use Rattle.std.specs.Prelude.{◌≤◌, List, ◌++◌, length, ◌⊎◌}
use Rattle.streetmap_http.specs.Head.{IsLinesOfHead, IsHead, HeadSays}
use Rattle.streetmap_http.specs.Lines.{field_lines}
use Rattle.streetmap_http.specs.Framing.{HeadValue, Framing, Frames, sized}
use Rattle.streetmap_http.specs.Body.{BodySays}
use Rattle.streetmap_http.specs.Streams as streams
use Rattle.streetmap_http.specs.Streams.{StreamEnd, refused, ended, truncated, EndsAs, Front}
use Rattle.streetmap_http.specs.Streams.{request, stops, IsFront, BeginsWithAll, IsCut}
use Rattle.streetmap_http.specs.Arrivals.{HasScanned, HoldsOf}
use Rattle.streetmap_http.specs.declared.arrival.HeadScan.{HeadScan}
use Rattle.streetmap_http.specs.declared.arrival.Arrival.{Arrival}
use Rattle.streetmap_http.specs.declared.arrival.Arrival.TheVariants.{Request, Head, Body}
use Rattle.streetmap_http.specs.declared.fault.FramingFault.{FramingFault}
use Rattle.streetmap_http.specs.declared.fault.FramingFault.TheVariants.{HeadTooLarge}
use Rattle.streetmap_http.specs.declared.head.HeadEnd.{HeadEnd}
use Rattle.streetmap_http.specs.declared.head.HeadEnd.TheVariants.{Whole, TooLarge, Ended}
use Rattle.streetmap_http.specs.declared.head.HeadEnd.TheVariants.{Truncated, Failed}
use Rattle.streetmap_http.specs.declared.body.BodyEnd.{BodyEnd}
use Rattle.streetmap_http.specs.declared.body.BodyEnd.TheVariants as bodies

-- the field lines of a head are its lines except the request line
abbrev pub FieldLinesAreLines : Type 0
FieldLinesAreLines = (bytes : List ℕ) (lines : List (List ℕ)) → IsLinesOfHead bytes lines
    → length lines ≡ 1 + field_lines bytes

-- a stream begins with at most one head, whatever follows
abbrev pub BeginsWithOneHead : Type 0
BeginsWithOneHead = (a b x y : List ℕ) → IsHead a → IsHead b → a ++ x ≡ b ++ y → a ≡ b

-- a head says one thing of the body and the connection, or breaks one rule first
abbrev pub SaysOneThing : Type 0
SaysOneThing = (head : List ℕ) (f g : Framing) → Frames head f → Frames head g → f ≡ g

-- the front of a stream is one thing: a request, bytes that break a rule, or an end
abbrev pub HasOneFront : Type 0
HasOneFront = (stream : List ℕ) (f g : Front) → IsFront stream f → IsFront stream g → f ≡ g

-- of two lists of requests that a stream begins with, one is a prefix of the other, and the rest
-- begins with the requests that the longer list adds
abbrev pub BeginningsAgree : Type 0
BeginningsAgree =
    (stream : List ℕ) (one other : List streams.Request) (x y : List ℕ) → BeginsWithAll stream one x
    → BeginsWithAll stream other y →
    ((more : List streams.Request) × (other ≡ one ++ more) × BeginsWithAll x more y)
    ⊎ ((more : List streams.Request) × (one ≡ other ++ more) × BeginsWithAll y more x)

-- a stream is cut in one way into requests and what follows them
abbrev pub HasOneCut : Type 0
HasOneCut =
    (stream : List ℕ) (one other : List streams.Request) (e f : StreamEnd) → IsCut stream one e
    → IsCut stream other f → (one ≡ other) × (e ≡ f)

-- bytes that were scanned stay scanned when more bytes arrive after them
abbrev pub ScansGoOn : Type 0
ScansGoOn = (scan : HeadScan) (bytes more : List ℕ) → HasScanned scan bytes
    → HasScanned scan (bytes ++ more)

-- a request that was received stays one, whatever arrives after it
abbrev pub RequestsStay : Type 0
RequestsStay = (bytes more : List ℕ) (n : ℕ) → HoldsOf (Request n) bytes
    → HoldsOf (Request n) (bytes ++ more)

-- each byte that arrives after a body that is not complete reduces the number of missing bytes by
-- one, and the last of them makes a whole request
abbrev pub BodiesFill : Type 0
BodiesFill =
    (bytes more : List ℕ) (missing : ℕ) → HoldsOf (Body missing) bytes →
    (length more < missing → HoldsOf (Body (missing - length more)) (bytes ++ more))
    × (missing ≤ length more → HoldsOf (Request (length bytes + missing)) (bytes ++ more))

-- how a stream goes on after the read of a head took these bytes and ended in this way, if that
-- determines it
abbrev pub end_by : HeadEnd → List ℕ → Option StreamEnd
end_by Whole bytes = None
end_by TooLarge bytes = Some (refused bytes false HeadTooLarge)
end_by Ended bytes = Some ended
end_by Truncated bytes = Some truncated
end_by Failed bytes = None

-- a read that ends without a head determines how the stream goes on
abbrev pub HeadsReadAreFronts : Type 0
HeadsReadAreFronts =
    (stream bytes left : List ℕ) (end : HeadEnd) → stream ≡ bytes ++ left
    → HeadSays end bytes (Some left) → IfSome (end_by end bytes) (EndsAs stream)

-- the front of a stream, given how the read of a body ended
abbrev pub front_by : BodyEnd → HeadValue → List ℕ → List ℕ → Option Front
front_by bodies.Whole h head body = Some
    (request (record { bytes = head ++ body; head = h; body = body }))
front_by bodies.Truncated h head body = Some (stops truncated)
front_by bodies.Failed h head body = None

-- a read of a head and then a read of its body determine the front of the stream: the request, or
-- one without its end
abbrev pub BodiesReadAreFronts : Type 0
BodiesReadAreFronts =
    (stream head came left : List ℕ) (h : HeadValue) (end : BodyEnd)
    → stream ≡ head ++ (came ++ left) → IsHead head → Frames head (sized h) →
    BodySays end (length came) h.len (Some left)
    → IfSome (front_by end h head came) (IsFront stream)

-- the front is what arrived: the first n bytes, or an end if more may arrive
abbrev pub IsOfArrival : Arrival → List ℕ → Front → Type 0
IsOfArrival (Request n) bytes (request r) = r.bytes ≡ take n bytes
IsOfArrival (Request n) bytes (stops end) = (bare : Bool) × (fault : FramingFault)
    × (end ≡ refused (take n bytes) bare fault)
IsOfArrival Head bytes front = (front ≡ stops ended) ⊎ (front ≡ stops truncated)
IsOfArrival (Body missing) bytes front = front ≡ stops truncated

-- the bytes received are the front that a reader finds of the same bytes
abbrev pub ArrivalsAreFronts : Type 0
ArrivalsAreFronts = (bytes : List ℕ) (arrival : Arrival) → HoldsOf arrival bytes → (front : Front)
    × IsFront bytes front × IsOfArrival arrival bytes front
