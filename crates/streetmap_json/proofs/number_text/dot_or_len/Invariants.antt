use Rattle.std.proofs.Common.{◌≡◌, ℕ, ◌<◌, get_or, false}
use Rattle.streetmap_json.specs.NumberText.{is_dot}
use Rattle.streetmap_json.proofs.number_text.dot_or_len.Given as goal

abbrev pub invariant-loop-i : goal.invariant-loop-i
invariant-loop-i l = (k : ℕ) → k < l.i → is_dot (get_or l.token k 0) ≡ false
