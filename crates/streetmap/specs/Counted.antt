-- Failures that are counted over a number of calls, up to the largest number of 64 bits.
use Rattle.std.specs.Prelude.{◌≤◌, ◌<◌, ◌-◌, ◌^◌, ◌⊎◌, ℕ}
use Rattle.std.proofs.Common.{inl, inr, arith}

-- more were counted, or the count has reached its limit
abbrev pub HasFailed : (old new : ℕ) → Type 0
HasFailed old new = (old < new) ⊎ (2 ^ 64 - 1 ≤ new)

pub itself : (n : ℕ) → n ≤ n
itself n = omega arith

pub both : (k l m : ℕ) → k ≤ l → l ≤ m → k ≤ m
both k l m first next = omega (arith, first, next)

pub later : (k l m : ℕ) → k ≤ l → HasFailed l m → HasFailed k m
later k l m first (inl more) = inl (omega (arith, first, more))
later k l m first (inr most) = inr most

pub still : (k l m : ℕ) → HasFailed k l → l ≤ m → HasFailed k m
still k l m (inl more) next = inl (omega (arith, more, next))
still k l m (inr most) next = inr (omega (arith, most, next))
