use Rattle.std.proofs.Common.{◌≡◌, pos, ◌*ℤ◌, ◌+ℤ◌, ◌-ℤ◌, arith}
use Rattle.std.proofs.lemmas.Int.{ints}
use Rattle.streetmap_moment.proofs.texts.day.Goals as goal

pub returns : goal.returns
returns c =
    let first : c.at-start.result.nanoseconds ≡ c.args.number *ℤ pos 86_400_000_000_000 = omega (arith, ints) in
    let last : c.at-end.result.nanoseconds ≡ (c.args.number +ℤ pos 1) *ℤ pos 86_400_000_000_000 -ℤ pos 1 = omega (arith, ints) in
    cc
