use Rattle.std.proofs.Common.{◌≡◌, eqb, true, get_or, length, sym, arith}
use Rattle.std.proofs.lemmas.Bool.Decides.{nat_tests}
use Rattle.std.proofs.lemmas.List.Sums.{position_or_len_is}
use Rattle.streetmap_decimal.specs.Options.{is_comma}
use Rattle.streetmap_decimal.proofs.shift.comma_or_len.Goals as goal

pub returns-then-byte-eq44 : goal.returns-then-byte-eq44
returns-then-byte-eq44 c =
    let here : eqb (get_or c.args.text.now c.loop-i.i 0) 44 ≡ true =
    grind (arith, nat_tests, c.if-byte-eq44.true) in
    sym (position_or_len_is is_comma c.args.text.now c.loop-i.i 0 (omega arith) c.loop-i.invariant
    (λ _. here))

pub returns : goal.returns
returns c = sym
    (position_or_len_is is_comma c.args.text.now (length c.args.text.now) 0 (omega arith)
    (λ k h. c.loop-i.invariant k (omega arith)) (λ h. absurd (omega arith)))
