-- What is written of a line stays, if the writer is informed; and what a line lacks is written.
use Rattle.std.proofs.Common.{◌≡◌, ◌≤◌, ◌<◌, ◌+◌, ◌-◌, ◌^◌, ℕ, min, List, Option}
use Rattle.std.proofs.Common.{take, drop, length, sym, ap, subst, ◌∙◌}
use Rattle.std.proofs.Common.{arith}
use Rattle.std.specs.Io.KnownBytes.{Appends}
use Rattle.std.proofs.lemmas.List.{drop-take, length-drop}

-- a prefix of the missing bytes of a line
pub lacking_put : (part written sum : ℕ) (line : List ℕ) (old new : Option (List ℕ)) →
    part ≤ length line → length line < 2 ^ 64 → written ≤ length (drop part line) →
    sum ≡ min (part + written) (2 ^ 64 - 1) → Appends old new (take written (drop part line)) →
    (part ≤ sum) × (sum ≤ length line) × Appends old new (drop part (take sum line))
lacking_put part written sum line old new low small few is puts =
    let long = length-drop part line in
    let both : sum ≡ part + written = omega (arith, is, low, small, few, long) in (
      omega (arith, both),
      omega (arith, both, few, long, low),
      subst (Appends old new) (sym (ap (λ (n : ℕ). drop part (take n line)) both
          ∙ drop-take part written line)) puts,
    )
