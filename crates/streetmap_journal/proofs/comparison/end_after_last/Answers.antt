use Rattle.std.proofs.Common.{◌≡◌, ◌<◌, List, ℕ, length, subst, ap, ◌∙◌, arith}
use Rattle.streetmap_journal.specs.Front.{TakesFront}
use Rattle.streetmap_journal.specs.Comparison.{line_head}
use Rattle.streetmap_journal.proofs.CutLines.{last_other, unread_last}
use Rattle.streetmap_journal.proofs.comparison.end_after_last.Goals as goal

pub returns-in-Ok-eq0-clause-ends : goal.returns-in-Ok-eq0-clause-ends
returns-in-Ok-eq0-clause-ends g c =
    unread_last c.args.serial _ c.not_read.result c.not_read.ensures

pub returns-in-Ok-2-clause-ends : goal.returns-in-Ok-2-clause-ends
returns-in-Ok-2-clause-ends g c =
    let head = line_head c.args.serial in
    let input = g.R.Read.remaining c.args.reader.now in
    let later = g.R.Read.remaining c.take_front.new.reader in
    let n = c.in-Ok-2.field-0 in
    let is : c.as_slice.result.now ≡ head = c.as_slice.ensures.value ∙ c.in-Ok.ensures in
    let took = subst (λ (bytes : List ℕ). TakesFront input later bytes n) is c.in-Ok-2.ensures in
    let size = ap length c.in-Ok.ensures in
    let some : 0 < n = omega (arith, c.in-Ok-take_front.count-test, c.in-Ok-2.field-0-is) in
    let few : n < length head =
    omega (
      arith,
      took.0,
      size,
      c.if-count-len.false,
      c.len.ensures,
      c.in-Ok.head.ok.0,
      c.in-Ok-2.field-0-is,
    ) in
    last_other c.args.serial n input later c.ranges.serial.fits took some few

pub returns-clause-ends : goal.returns-clause-ends
returns-clause-ends g c =
    unread_last c.args.serial _ c.not_read-in-Err.result c.not_read-in-Err.ensures
