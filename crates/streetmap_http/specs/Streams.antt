-- A stream of requests, one after the other, and how it goes on after them. RFC 9112, sections 2.1,
-- 6.3 and 9.3.
use Rattle.std.specs.Prelude.{◌≡◌, ℕ, ◌+◌, ◌<◌, List, ◌++◌, length, Bool, All}
use Rattle.std.specs.List.{flat_map}
use Rattle.streetmap_http.specs.Head.{IsHead, HasNoHead, IsBlank}
use Rattle.streetmap_http.specs.Framing.{HeadValue, Frames, sized, Breaks, IsRequest}
use Rattle.streetmap_http.specs.declared.limits.TheConstants.{HEAD_LIMIT}
use Rattle.streetmap_http.specs.declared.fault.FramingFault.{FramingFault}

-- a request: its bytes, what its head says, and its body
pub record Request : Type 0 where
  pub bytes : List ℕ
  pub head : HeadValue
  pub body : List ℕ

-- the bytes are the head and the body
abbrev pub IsWholeRequest : Request → Type 0
IsWholeRequest r = IsRequest r.bytes r.head r.body

-- the stream begins with these bytes
abbrev pub BeginsWith : List ℕ → List ℕ → Type 0
BeginsWith stream bytes = (rest : List ℕ) × (stream ≡ bytes ++ rest)

-- a head, and a part of its body: this number of bytes is missing
pub record LacksOfBody (missing : ℕ) (bytes : List ℕ) : Type 0 where
  pub head : List ℕ
  pub came : List ℕ
  pub value : HeadValue
  pub parts : bytes ≡ head ++ came
  pub cut : IsHead head
  pub framed : Frames head (sized value)
  pub len : length came + missing ≡ value.len

-- a request without its end
pub data IsUnfinished (bytes : List ℕ) : Type 0 where
  in_head : length bytes < HEAD_LIMIT → HasNoHead bytes → (IsBlank bytes → ⊥) → IsUnfinished bytes
  in_body : (missing : ℕ) → 0 < missing → LacksOfBody missing bytes → IsUnfinished bytes

-- how a stream goes on if no further request follows: bytes that break a rule of framing (with
-- whether the answer has no body), its end, or a request without its end
pub data StreamEnd : Type 0 where
  refused : List ℕ → Bool → FramingFault → StreamEnd
  ended : StreamEnd
  truncated : StreamEnd

-- the stream goes on in this way
abbrev pub EndsAs : List ℕ → StreamEnd → Type 0
EndsAs stream (refused bytes bare fault) = Breaks bytes bare fault × BeginsWith stream bytes
EndsAs stream ended = IsBlank stream
EndsAs stream truncated = IsUnfinished stream

-- the front of a stream
pub data Front : Type 0 where
  request : Request → Front
  stops : StreamEnd → Front

-- the stream begins with this request, or goes on in this way
abbrev pub IsFront : List ℕ → Front → Type 0
IsFront stream (request r) = IsWholeRequest r × BeginsWith stream r.bytes
IsFront stream (stops end) = EndsAs stream end

-- the stream is these requests, one after the other, and then the rest
pub record BeginsWithAll (stream : List ℕ) (requests : List Request) (rest : List ℕ) : Type 0 where
  pub whole : All IsWholeRequest requests
  pub joined : stream ≡ flat_map (λ r. r.bytes) requests ++ rest

-- the stream is these requests, one after the other, and then goes on in this way
pub record IsCut (stream : List ℕ) (requests : List Request) (end : StreamEnd) : Type 0 where
  pub rest : List ℕ
  pub begins : BeginsWithAll stream requests rest
  pub ends : EndsAs rest end
