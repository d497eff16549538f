-- What was read of a row.
use Rattle.std.proofs.Common.{◌≡◌, ◌<◌, ℕ, Ok, Err, Result, length, sym, subst}
use Rattle.sqlite.specs.Order.{Row}

pub good_of : {T E : Type 0} {x y : T} → ◌≡◌ {A = Result T E} (Ok x) (Ok y) → x ≡ y
good_of e = cc

pub no_err : {T E : Type 0} {X : Type 0} (e : E) (x : T) → ◌≡◌ {A = Result T E} (Err e) (Ok x) → X
no_err e x is = absurd (cc)

pub within : (r s : Row) (at : ℕ) → r ≡ s → at < length s → at < length r
within r s at is h = subst (λ (x : Row). at < length x) (sym is) h
