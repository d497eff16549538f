-- How many clients were requested.
use Rattle.std.proofs.Common.{◌≡◌, ◌≤◌, ℕ, Option, None, Some, IfSome, arith}

pub as_many : (o : Option ℕ) (n m : ℕ) → IfSome o (λ k. n ≡ k) → n ≤ m → IfSome o (λ k. k ≤ m)
as_many None n m is most = tt
as_many (Some k) n m is most = let same : n ≡ k = is in omega arith

pub as_few : (o : Option ℕ) (n m : ℕ) → IfSome o (λ k. n ≡ k) → m ≤ n → IfSome o (λ k. m ≤ k)
as_few None n m is few = tt
as_few (Some k) n m is few = let same : n ≡ k = is in omega arith

pub none_at_all : (o : Option ℕ) (m : ℕ) → m ≡ 0 → IfSome o (λ k. m ≤ k)
none_at_all None m none = tt
none_at_all (Some k) m none = omega arith
