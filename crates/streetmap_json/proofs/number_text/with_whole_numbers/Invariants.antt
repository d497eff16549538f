use Rattle.std.proofs.Common.{◌≡◌, ◌-◌, ◌≤◌, ◌++◌, [], length, take, drop}
use Rattle.std.specs.List.{flat_map}
use Rattle.streetmap_json.specs.NumberText.{whole_text, outside, tokens_from, with_whole_numbers}
use Rattle.streetmap_json.proofs.number_text.with_whole_numbers.Given as goal

abbrev pub invariant-loop-at : goal.invariant-loop-at
invariant-loop-at l = record {
  copied_within : l.copied ≤ l.at;
  at_within : l.at ≤ length l.text;
  nothing_copied : l.copied ≡ 0 → l.plain.items ≡ [];
  so_far : l.plain.items ++ (take (l.at - l.copied) (drop l.copied l.text) ++ flat_map whole_text (tokens_from outside (drop l.at l.text))) ≡ with_whole_numbers l.text;
}

abbrev pub decreases-loop-at : goal.decreases-loop-at
decreases-loop-at l = length l.text - l.at
