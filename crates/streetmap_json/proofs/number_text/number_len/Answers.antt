use Rattle.std.proofs.Common.{◌≡◌, false, get_or, length, sym, ◌∙◌, arith}
use Rattle.std.proofs.lemmas.List.Sums.{prefix_len_is}
use Rattle.streetmap_json.specs.NumberText.{is_in_number}
use Rattle.streetmap_json.proofs.number_text.number_len.Goals as goal

pub returns-then-not-is_in_number : goal.returns-then-not-is_in_number
returns-then-not-is_in_number c =
    let stops : is_in_number (get_or c.args.text.now c.loop-i.i 0) ≡ false = sym c.is_in_number.ensures ∙ c.if-not-is_in_number.true in
    sym (prefix_len_is is_in_number c.args.text.now c.loop-i.i 0 (omega arith) c.loop-i.invariant (λ _. stops))

pub returns : goal.returns
returns c = sym (prefix_len_is is_in_number c.args.text.now (length c.args.text.now) 0 (omega arith) (λ k h. c.loop-i.invariant k (omega arith)) (λ h. absurd (omega arith)))
