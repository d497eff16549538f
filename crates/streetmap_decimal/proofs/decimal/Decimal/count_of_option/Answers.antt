use Rattle.std.proofs.Common.{rules, ap, subst, ◌∙◌, arith, FitsSigned}
use Rattle.std.specs.Prelude.{unsigned_abs}
use Rattle.std.specs.Int.{w128}
use Rattle.std.proofs.lemmas.Int.{to_z-of_z}
use Rattle.streetmap_decimal.specs.Decimal.{ReadsCount}
use Rattle.streetmap_decimal.proofs.Once.{counts_same, counts_not}
use Rattle.streetmap_decimal.proofs.decimal.Decimal.count_of_option.Goals as goal

pub returns-in_default-clause-reads : goal.returns-in_default-clause-reads
returns-in_default-clause-reads c = λ u h.
    let n = c.in-Ok.count in
    let f : FitsSigned w128 n = search rules in
    let same = counts_same c.args.places c.args.text.now u n h.0 c.in-Ok.ensures in
    let size = c.unsigned_abs.ensures.value ∙ ap unsigned_abs (to_z-of_z w128 n f) in
    absurd (omega
    (arith, h.1, ap unsigned_abs same, size, c.if-unsigned_abs-lt-OPTION_LIMIT.false))

pub returns-in_default-2-clause-reads : goal.returns-in_default-2-clause-reads
returns-in_default-2-clause-reads c = λ u h.
    counts_not c.args.places c.args.text.now u c.in_default.field-0 h.0
    (subst (ReadsCount c.args.places c.args.text.now) c.in_default.is c.count_of_text.ensures)
