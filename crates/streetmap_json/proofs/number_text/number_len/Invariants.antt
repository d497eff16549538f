use Rattle.std.proofs.Common.{◌≡◌, ℕ, ◌<◌, get_or, true}
use Rattle.streetmap_json.specs.NumberText.{is_in_number}
use Rattle.streetmap_json.proofs.number_text.number_len.Given as goal

abbrev pub invariant-loop-i : goal.invariant-loop-i
invariant-loop-i l = (k : ℕ) → k < l.i → is_in_number (get_or l.text k 0) ≡ true
