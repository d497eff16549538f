use Rattle.std.proofs.Common.{◌≡◌, ℕ, ◌<◌, get_or, false}
use Rattle.streetmap_decimal.specs.Options.{is_comma}
use Rattle.streetmap_decimal.proofs.shift.comma_or_len.Given as goal

abbrev pub invariant-loop-i : goal.invariant-loop-i
invariant-loop-i l = (k : ℕ) → k < l.i → is_comma (get_or l.text k 0) ≡ false
