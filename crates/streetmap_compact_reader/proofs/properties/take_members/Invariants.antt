use Rattle.std.proofs.Common.{List, ℕ, length, option_map}
use Rattle.std.specs.Borrow.{Bor}
use denote.Text.{Utf8}
use denote.Shadow.{shadow}
use Rattle.streetmap_compact_reader.proofs.MemberFronts.{MembersRead}
use Rattle.streetmap_compact_reader.proofs.properties.take_members.Given as goal

-- the members so far are those of the object, with the value of that name among them
abbrev pub invariant-loop-apart : goal.invariant-loop-apart
invariant-loop-apart l = record {
  utf8 : shadow (Utf8 l.after);
  last_utf8 : shadow (Utf8 l.last);
  read : MembersRead l.fn.rest l.after l.last (option_map (λ (s : Bor (List ℕ)). s.now) l.fn.property) l.found;
}

abbrev pub decreases-loop-apart : goal.decreases-loop-apart
decreases-loop-apart l = length l.after
