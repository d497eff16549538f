-- How a stream of requests ended.
use Rattle.std.specs.Prelude.{◌≡◌, ◌≢◌, ◌⊎◌, Bool, true, [], Option}
use Rattle.std.specs.Io.KnownBytes.{Consumes, IsAtEnd}
use Rattle.streetmap_http.specs.Head.{IsBlank}
use Rattle.streetmap_http.specs.Streams.{IsUnfinished}
use Rattle.streetmap_batch.specs.Text.{Text}
use Rattle.streetmap_web.specs.declared.turns.End.{End}
use Rattle.streetmap_web.specs.declared.turns.End.TheVariants.{Ended, Truncated}
use Rattle.streetmap_web.specs.declared.turns.End.TheVariants.{ReadFailed, WriteFailed, FlushFailed}

-- the reader gave such bytes, and has no more
abbrev pub EndsWith : (Text → Type 0) → (left now : Option Text) → Type 0
EndsWith Is left now = (bytes : Text) × Is bytes × Consumes left now bytes × IsAtEnd now

-- Of a stream of requests: whether the last answer closed it, what was not written of that answer,
-- and what the reader had left after the requests and has now. The input ended after whole
-- requests, or an answer closed the stream; or the input ended within a request; or a read failed,
-- or a write; or the flush after an answer, which was written whole.
abbrev pub EndsSo : End → (closes : Bool) → (unsent : Text) → (left now : Option Text) → Type 0
EndsSo Ended closes unsent left now = (unsent ≡ [])
    × (((closes ≡ true) × (now ≡ left)) ⊎ EndsWith IsBlank left now)
EndsSo Truncated closes unsent left now = (unsent ≡ []) × EndsWith IsUnfinished left now
EndsSo ReadFailed closes unsent left now = unsent ≡ []
EndsSo WriteFailed closes unsent left now = (unsent ≢ []) × (now ≡ left)
EndsSo FlushFailed closes unsent left now = (unsent ≡ []) × (now ≡ left)
