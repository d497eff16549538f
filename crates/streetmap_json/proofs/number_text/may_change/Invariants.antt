use Rattle.std.proofs.Common.{◌≡◌, ◌-◌, ◌||◌, drop}
use Rattle.streetmap_json.specs.NumberText.{may_change}
use Rattle.streetmap_json.proofs.number_text.may_change.Given as goal

abbrev pub invariant-loop-i : goal.invariant-loop-i
invariant-loop-i l = (l.found || may_change (drop (l.i - 2) l.text)) ≡ may_change l.text
