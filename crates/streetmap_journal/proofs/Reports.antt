-- What a writer was informed of stays true as lines are written; and when it failed.
use Rattle.std.proofs.Common.{◌≡◌, ◌≤◌, ℕ, Bool, true, false, Option, Result, Ok, Err}
use Rattle.std.proofs.Common.{refl, ◌∙◌, arith}
use Rattle.streetmap_ledger.specs.declared.reply.Fault.{Fault}
use Rattle.streetmap_ledger.specs.declared.reply.Reply.{Reply}
use Rattle.streetmap_journal.specs.Reports.{IsInformedBy}
use Rattle.streetmap_journal.specs.Written.{OfReply}

-- lines were written while some are missing
pub still_reported : (old new : Bool) (low high : ℕ) (was is : Option ℕ) (kept keeps : Type 0) →
    old ≡ true → new ≡ old → low ≤ high → is ≡ was → IsInformedBy old low was kept →
    IsInformedBy new high is keeps
still_reported false new low high was is kept keeps behind same grows reported h = absurd cc
still_reported true false low high was is kept keeps behind same grows reported h = absurd cc
still_reported true true low high was is kept keeps behind same grows reported h =
    (h.0, reported ∙ h.1, omega (arith, grows, h.2))

-- a line was written and kept while none is missing
pub kept_reported : (old new : Bool) (low high : ℕ) (was is : Option ℕ) (kept keeps : Type 0) →
    old ≡ false → new ≡ old → is ≡ was → keeps → IsInformedBy old low was kept →
    IsInformedBy new high is keeps
kept_reported true new low high was is kept keeps whole same reported all h = absurd cc
kept_reported false true low high was is kept keeps whole same reported all h = absurd cc
kept_reported false false low high was is kept keeps whole same reported all h = (reported ∙ h.0, all)

-- two stretches of calls, if lines were completed in the first
pub fails_through : {W : Type 0} (goes fails : W → W → Type 0) →
    ((a b c : W) → goes a b → fails b c → fails a c) →
    ((a b c : W) → fails a b → goes b c → fails a c) →
    (first mid last : W) (behind : Bool) → goes first mid → goes mid last →
    (behind ≡ true → fails first mid) → (behind ≡ false → fails mid last) → fails first last
fails_through goes fails later still first mid last true begins ends failed fails_next =
    still first mid last (failed refl) ends
fails_through goes fails later still first mid last false begins ends failed fails_next =
    later first mid last begins (fails_next refl)

-- what holds of a reply, with what holds of every result
pub with_reply : (came : Result Reply Fault → Type 0) (P : Type 0) (r : Result Reply Fault) → P →
    OfReply came r → OfReply (λ reply. came reply × P) r
with_reply came P (Ok reply) p h = (h, p)
with_reply came P (Err fault) p h = tt
