use Rattle.std.proofs.Common.{ℕ, ◌≤◌, List, ◌++◌, length, take, drop, arith, sym, ap, ◌∙◌, length-drop}
use Rattle.std.proofs.lemmas.List.{length-take}
use Rattle.streetmap_json.specs.NumberText.{whole_text, with_whole_numbers}
use Rattle.streetmap_json.proofs.NumberTextWhole.{whole_text_same}
use Rattle.streetmap_json.proofs.NumberTextCopies.{rest_is, between_is, IsToken, token_stays, at_the_end, nothing_changes}
use Rattle.streetmap_json.proofs.NumberTextPlain.{text_stays}
use Rattle.streetmap_json.proofs.number_text.with_whole_numbers.Goals as goal

pub returns-then-not-may_change : goal.returns-then-not-may_change
returns-then-not-may_change c = text_stays c.args.text.now (sym c.may_change.ensures ∙ c.if-not-may_change.true)

pub loop-at-preserved : goal.loop-at-preserved
loop-at-preserved c =
    let text = c.args.text.now in
    let at = c.loop-at.at in
    let n = c.token_len.result in
    let first : IsToken text at n = rw (rest_is text at) at c.token_len.ensures.first in
    let within : n ≤ length (drop at text) = rw (rest_is text at) at c.token_len.ensures.within in
    let token = take n (drop at text) in
    let whole = rw (between_is text at n) at c.whole_text-whole.ensures in
    let long : length token ≤ length (whole_text token) = rw (← whole) (omega (arith, length-take n (drop at text))) in
    record {
      copied_within = omega arith;
      at_within = omega (arith, length-drop at text);
      nothing_copied = c.loop-at.invariant.nothing_copied;
      so_far = token_stays text c.loop-at.plain.items (with_whole_numbers text) c.loop-at.copied at n c.loop-at.invariant.copied_within first (whole_text_same token long) c.loop-at.invariant.so_far;
    }

pub returns-then-copied-eq0 : goal.returns-then-copied-eq0
returns-then-copied-eq0 c =
    let so_far = rw c.if-copied-eq0.true at c.loop-at.invariant.so_far in
    nothing_changes c.args.text.now c.loop-at.plain.items (with_whole_numbers c.args.text.now) c.loop-at.at c.loop-at.invariant.at_within c.loop-at-test.false (c.loop-at.invariant.nothing_copied c.if-copied-eq0.true) so_far

pub returns : goal.returns
returns c =
    let text = c.args.text.now in
    c.in_ok-extend_from_slice-3.ensures.items ∙ ap (λ (w : List ℕ). c.loop-at.plain.items ++ w) (rest_is text c.loop-at.copied)
    ∙ at_the_end text c.loop-at.plain.items (with_whole_numbers text) c.loop-at.copied c.loop-at.at c.loop-at.invariant.at_within c.loop-at-test.false c.loop-at.invariant.so_far
