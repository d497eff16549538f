-- How a request is refused if memory runs out for it.
use Rattle.std.specs.Prelude.{◌≡◌, ℕ, take, Bool, true, false}
use Rattle.streetmap_batch.specs.Text.{Text}
use Rattle.streetmap_ledger.specs.declared.reply.Fault.TheVariants.{Memory}
use Rattle.streetmap_bodies.specs.declared.request_fault.RequestFault.TheVariants.{Keeper}
use Rattle.streetmap_http.specs.Framing.{Framing, Frames, broken, sized, is_bare}
use Rattle.streetmap_http.specs.Head.{IsHead, HasNoHead}
use Rattle.streetmap_http.specs.declared.limits.TheConstants.{HEAD_LIMIT}
use Rattle.streetmap_web.specs.Response.{fault_response, response_text}

-- whether the answer has no body, by a head
abbrev pub bare_by : Framing → Bool
bare_by (broken bare fault) = bare
bare_by (sized h) = is_bare h.method

-- The answer to a request of which these bytes were received has no body if its head is whole and
-- says so; without a whole head, the answer has one.
pub data IsFrontBare (bytes : Text) (bare : Bool) : Type 0 where
  by_head : (n : ℕ) (f : Framing) → IsHead (take n bytes) → Frames (take n bytes) f
      → bare ≡ bare_by f → IsFrontBare bytes bare
  in_head : HasNoHead (take HEAD_LIMIT bytes) → bare ≡ false → IsFrontBare bytes bare

-- the fixed answer 503, which closes the connection
abbrev pub IsRefusal : Text → Text → Type 0
IsRefusal bytes text = (bare : Bool) × IsFrontBare bytes bare
    × (text ≡ response_text true bare (fault_response (Keeper Memory)))
