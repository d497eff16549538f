use Rattle.std.proofs.Common.{◌≡◌, eqb, true, get_or, length, sym, arith}
use Rattle.std.proofs.lemmas.Bool.Decides.{nat_tests}
use Rattle.std.proofs.lemmas.List.Sums.{position_or_len_is}
use Rattle.streetmap_json.specs.NumberText.{is_dot}
use Rattle.streetmap_json.proofs.number_text.dot_or_len.Goals as goal

pub returns-then-byte-eq46 : goal.returns-then-byte-eq46
returns-then-byte-eq46 c =
    let here : eqb (get_or c.args.token.now c.loop-i.i 0) 46 ≡ true = grind (arith, nat_tests, c.if-byte-eq46.true) in
    sym (position_or_len_is is_dot c.args.token.now c.loop-i.i 0 (omega arith) c.loop-i.invariant (λ _. here))

pub returns : goal.returns
returns c = sym (position_or_len_is is_dot c.args.token.now (length c.args.token.now) 0 (omega arith) (λ k h. c.loop-i.invariant k (omega arith)) (λ h. absurd (omega arith)))
