use Rattle.std.proofs.Common.{length, ◌-◌, ◌≤◌, IsTrue, take}
use Rattle.std.specs.List.{list_all}
use Rattle.streetmap_feature_text.specs.Plain.{is_plain}
use Rattle.streetmap_compact_reader.proofs.texts.plain_len.Given as goal

-- the bytes so far are plain
abbrev pub invariant-loop-end : goal.invariant-loop-end
invariant-loop-end l = record {
  within : l.end ≤ length l.bytes;
  plain : IsTrue (list_all is_plain (take l.end l.bytes));
}

abbrev pub decreases-loop-end : goal.decreases-loop-end
decreases-loop-end l = length l.bytes - l.end
