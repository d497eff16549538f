-- What received bytes hold of a request, and how far they were scanned for the end of its head.
use Rattle.std.specs.Prelude.{◌≡◌, ◌≢◌, ◌⊎◌, ℕ, ◌<◌, ◌≤◌, List, [], length, take, Bool}
use Rattle.streetmap_http.specs.Head.{HasNoHead}
use Rattle.streetmap_http.specs.Progress.{HasReached}
use Rattle.streetmap_http.specs.Framing.{HeadValue, Framing, broken, sized, Breaks, IsRequest}
use Rattle.streetmap_http.specs.Streams.{LacksOfBody}
use Rattle.streetmap_http.specs.declared.limits.TheConstants.{HEAD_LIMIT}
use Rattle.streetmap_http.specs.declared.fault.FramingFault.{FramingFault}
use Rattle.streetmap_http.specs.declared.head.HeadProgress.TheVariants.{Done}
use Rattle.streetmap_http.specs.declared.arrival.HeadScan.{HeadScan}
use Rattle.streetmap_http.specs.declared.arrival.Arrival.{Arrival}
use Rattle.streetmap_http.specs.declared.arrival.Arrival.TheVariants.{Request, Head, Body}

-- bytes that are answered as one: a whole request, or what breaks a rule of framing
abbrev pub IsAnswered : List ℕ → Type 0
IsAnswered bytes = ((h : HeadValue) × (body : List ℕ) × IsRequest bytes h body)
    ⊎ ((bare : Bool) × (fault : FramingFault) × Breaks bytes bare fault)

-- the first n bytes are answered as one; or no head ends in the bytes, and may yet; or this number
-- of bytes of the body is missing
abbrev pub HoldsOf : Arrival → List ℕ → Type 0
HoldsOf (Request n) bytes = (n ≤ length bytes) × IsAnswered (take n bytes)
HoldsOf Head bytes = (length bytes < HEAD_LIMIT) × HasNoHead bytes
HoldsOf (Body missing) bytes = (0 < missing) × LacksOfBody missing bytes

-- the bytes break a rule of framing, or are a head that says so and this body
abbrev pub SplitsAs : Framing → List ℕ → List ℕ → Type 0
SplitsAs (broken bare fault) body bytes = Breaks bytes bare fault × (body ≡ [])
SplitsAs (sized h) body bytes = IsRequest bytes h body

-- the first bytes, which were scanned, have come this far in a head, and not to its end
pub record HasScanned (scan : HeadScan) (bytes : List ℕ) : Type 0 where
  pub within : scan.scanned ≤ length bytes
  pub short : scan.scanned ≤ HEAD_LIMIT
  pub progress : HasReached scan.progress (take scan.scanned bytes)
  pub unfinished : scan.progress ≢ Done
