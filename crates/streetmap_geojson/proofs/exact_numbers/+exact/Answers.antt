use Rattle.std.proofs.Common.{◌≡◌, Bool, true, false, not, refl, sym, ◌∙◌}
use Rattle.serde_json.specs.View.{view}
use Rattle.serde_json.specs.Written.{has_float}
use Rattle.streetmap_geojson.proofs.ExactMembers.{Entry, rest_is_sorted, rest_is_exact, rest_is_whole}
use Rattle.streetmap_geojson.proofs.exact_numbers.+exact.Goals as goal

was_not : (b : Bool) → true ≡ not b → b ≡ false
was_not true h = absurd cc
was_not false h = refl

pub are_exact_members-loop-name-preserved : goal.are_exact_members-loop-name-preserved
are_exact_members-loop-name-preserved t c =
    let entry : Entry = (c.in-Some._name.now, c.in-Some.member.now) in
    let rest = c.next.new.self in
    let sorted = rw c.in-Some.ensures.steps at c.loop-name.invariant.sorted in
    let reported = rw c.in-Some.ensures.steps at c.loop-name.invariant.reported in
    let whole = rw c.in-Some.ensures.steps at c.loop-name.invariant.whole in
    record {
      sorted = rest_is_sorted entry rest sorted;
      reported = sym (rest_is_exact entry rest sorted (sym c.if-not-is_exact.ensures.reported)) ∙ reported;
      whole = sym (rest_is_whole entry rest (was_not (has_float (view entry.1)) c.if-not-is_exact.ensures.whole)) ∙ whole;
    }
