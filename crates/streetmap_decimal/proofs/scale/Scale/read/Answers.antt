use Rattle.std.proofs.Common.{◌≡◌, rules, subst, pos, false, FitsSigned}
use Rattle.std.specs.Prelude.{int_le}
use Rattle.std.specs.Int.{w128}
use Rattle.std.proofs.lemmas.Int.{to_z-of_z}
use Rattle.streetmap_decimal.specs.Options.{ReadsOption}
use Rattle.streetmap_decimal.proofs.Once.{counts_same}
use Rattle.streetmap_decimal.proofs.Signs.{not_above}
use Rattle.streetmap_decimal.proofs.scale.Scale.read.Goals as goal

pub returns-in_default : goal.returns-in_default
returns-in_default c =
    let n = c.in-Some.count in
    let f : FitsSigned w128 n = search rules in
    let low : int_le (pos 1) n ≡ false = rw (to_z-of_z w128 n f) at c.if-count-ge-LEAST.false in
    λ s h. not_above s n h.1 (counts_same 9 c.args.text.now s n h.0.0 c.in-Some.ensures.reads.0) low

pub returns-in_default-2 : goal.returns-in_default-2
returns-in_default-2 c = λ s h. (subst (ReadsOption 9 c.args.text.now) c.in_default.is
    c.count_of_option.ensures.reads) s h.0
