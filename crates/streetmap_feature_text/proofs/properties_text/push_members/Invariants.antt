use Rattle.std.proofs.Common.{◌≡◌, ◌++◌, false, string_bytes}
use Rattle.serde_json.specs.View.{members_view}
use Rattle.serde_json.specs.Written.{members_have_float, members_text}
use Rattle.streetmap_feature_text.proofs.properties_text.push_members.Given as goal

-- what is written and what is left make up the whole
abbrev pub invariant-loop-name : goal.invariant-loop-name
invariant-loop-name l = record {
  whole : members_have_float (members_view l.name-iterator) ≡ false;
  text : string_bytes l.out ++ members_text l.later (members_view l.name-iterator)
      ≡ string_bytes l.fn.out ++ members_text false (members_view l.members.entries);
}
