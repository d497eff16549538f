-- Turns as they follow from what was read and sent.
use Rattle.std.specs.Prelude.{◌≡◌, ℕ, ◌<◌, List, length, Bool, true, false, Option, ◌⊎◌}
use Rattle.std.specs.Io.KnownBytes.{Consumes, IsAtEnd}
use Rattle.streetmap_http.specs.declared.body.BodyEnd.{BodyEnd}
use Rattle.streetmap_http.specs.declared.body.BodyEnd.TheVariants as bodies
use Rattle.streetmap_http.specs.declared.sender.Sent.{Sent}
use Rattle.streetmap_http.specs.declared.sender.Sent.TheVariants.{Whole, Part}
use Rattle.streetmap_http.specs.SentAnswers.{SentSays}
use Rattle.streetmap_http.specs.declared.fault.FramingFault.{FramingFault}
use Rattle.streetmap_batch.specs.Text.{Text}
use Rattle.streetmap_ledger.specs.declared.reply.Fault.TheVariants.{Memory}
use Rattle.streetmap_web.specs.Response.{fault_response, response_text}
use Rattle.streetmap_bodies.specs.declared.request_fault.RequestFault.{RequestFault}
use Rattle.streetmap_bodies.specs.declared.request_fault.RequestFault.TheVariants.{Framing, Keeper}
use Rattle.streetmap_web.specs.declared.turns.Turn.{Turn}
use Rattle.streetmap_web.specs.declared.turns.Turn.TheVariants.{Open, Closed, Ended, Truncated}
use Rattle.streetmap_web.specs.declared.turns.Turn.TheVariants.{ReadFailed, WriteFailed, FlushFailed}
use Rattle.streetmap_web.specs.declared.turns.End.{End}
use Rattle.streetmap_web.specs.declared.turns.End.TheVariants as ends

-- the turn of an answer that was sent so, and flushed or not
abbrev pub turn_after : Sent → (flushed closes : Bool) → Turn
turn_after Whole false closes = FlushFailed
turn_after Whole true true = Closed
turn_after Whole true false = Open
turn_after (Part begun) flushed closes = WriteFailed begun

-- how serving ends with a turn
abbrev pub end_of : Turn → End
end_of Open = ends.Ended
end_of Closed = ends.Ended
end_of Ended = ends.Ended
end_of Truncated = ends.Truncated
end_of ReadFailed = ends.ReadFailed
end_of (WriteFailed begun) = ends.WriteFailed
end_of FlushFailed = ends.FlushFailed

-- whether an answer of a turn was begun
abbrev pub begun_in : Turn → Bool
begun_in Open = true
begun_in Closed = true
begun_in Ended = false
begun_in Truncated = false
begun_in ReadFailed = false
begun_in (WriteFailed begun) = begun
begun_in FlushFailed = true

-- how a body was read into room for it: all of it, or less up to the end of the input
abbrev pub FillSays : BodyEnd → List ℕ → Option (List ℕ) → Option (List ℕ) → Type 0
FillSays bodies.Whole room a b = Consumes a b room
FillSays bodies.Truncated room a b = (part : List ℕ) × (length part < length room)
    × Consumes a b part × IsAtEnd b
FillSays bodies.Failed room a b = Unit {0}

-- an answer with this text was sent: the turn says how that ended
abbrev pub WriteSays : Turn → Text → (closes : Bool) → Option (List ℕ) → Option (List ℕ) → Type 0
WriteSays turn text closes a b =
    (sent : Sent) × (flushed : Bool) × (turn ≡ turn_after sent flushed closes)
    × SentSays sent text a b

-- the answer to a broken rule, or that memory ran out for it, was sent
abbrev pub RefuseSays : Turn → Bool → FramingFault → Option (List ℕ) → Option (List ℕ) → Type 0
RefuseSays turn bare fault a b =
    (answer : RequestFault) × ((answer ≡ Framing fault) ⊎ (answer ≡ Keeper Memory))
    × WriteSays turn (response_text true bare (fault_response answer)) true a b

-- What a turn hands on, from whether the writer kept nothing back before to whether it keeps
-- nothing back now. After an answer it keeps nothing back, unless a write or the flush failed.
abbrev pub HandsOn : Turn → (before now : Type 0) → Type 0
HandsOn Open before now = now
HandsOn Closed before now = now
HandsOn Ended before now = before → now
HandsOn Truncated before now = before → now
HandsOn ReadFailed before now = before → now
HandsOn (WriteFailed begun) before now = Unit {0}
HandsOn FlushFailed before now = Unit {0}

-- The same of a stream that ended so after this many answers.
abbrev pub IsHandedOn : End → (count : ℕ) → (before now : Type 0) → Type 0
IsHandedOn ends.WriteFailed count before now = Unit {0}
IsHandedOn ends.FlushFailed count before now = Unit {0}
IsHandedOn ends.Ended count before now = (0 < count) ⊎ before → now
IsHandedOn ends.Truncated count before now = (0 < count) ⊎ before → now
IsHandedOn ends.ReadFailed count before now = (0 < count) ⊎ before → now
