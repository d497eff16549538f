use Rattle.std.proofs.Common.{◌≡◌, true, sym, ◌∙◌, arith, rules}
use Rattle.streetmap_compact_reader.proofs.MemberFronts.{first_member, next_member}
use Rattle.streetmap_compact_reader.proofs.properties.take_members.Goals as goal

pub loop-apart-init : goal.loop-apart-init
loop-apart-init c =
    let m = c.in_ok-name.ensures in
    record {
      utf8 = search rules;
      last_utf8 = search rules;
      read = first_member _ _ c.in_ok-name.name.now c.in_ok-name.value _ _ m.text m.utf8 m.exact c.found_with-found.ensures;
    }

pub loop-apart-preserved : goal.loop-apart-preserved
loop-apart-preserved c =
    let m = c.in_ok-name-2.ensures in
    let less : c.comes_before.result ≡ true = grind arith in
    record {
      utf8 = search rules;
      last_utf8 = search rules;
      read = next_member _ _ _ _ _ c.in_ok-name-2.name.now c.in_ok-name-2.value _ _ _ c.loop-apart.invariant.read c.in-Some.ensures m.text m.utf8 m.exact
          (sym c.comes_before.ensures ∙ less) c.found_with-found-in-Some.ensures;
    }
