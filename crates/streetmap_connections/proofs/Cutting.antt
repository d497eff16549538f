-- Bytes that hold no request until one more arrives.
use Rattle.std.proofs.Common.{ℕ, ◌+◌, ◌<◌, ◌≤◌, List, [], ◌∷◌, ◌++◌, length, sym, subst, arith, length-append}
use Rattle.std.proofs.lemmas.List.{append-nil}
use Rattle.streetmap_connections.specs.Cuts.{HasNone, HasNoneBefore}

too_long : (bytes : List ℕ) (x : ℕ) (more : List ℕ) (needs : ℕ) → needs ≤ length bytes + 1 → ¬ (length (bytes ++ (x ∷ more)) < needs)
too_long bytes x more needs next less = omega (arith, length-append bytes (x ∷ more), next, less)

pub none_before_next : (is_request : List ℕ → Type 0) (bytes : List ℕ) (needs : ℕ) → needs ≤ length bytes + 1 → HasNone is_request bytes → HasNoneBefore is_request bytes needs
none_before_next is_request bytes needs next none [] less = subst (λ (xs : List ℕ). HasNone is_request xs) (sym (append-nil bytes)) none
none_before_next is_request bytes needs next none (x ∷ more) less = absurd (too_long bytes x more needs next less)
