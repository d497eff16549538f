use Rattle.std.proofs.Common.{◌≡◌, ℤ, ◌≤ℤ◌, Option, None, Some, subst, arith, rules, SFits, w64}
use Rattle.std.proofs.lemmas.Int.{ints, to_z-of_z}
use Rattle.streetmap_outlines.specs.Outlines.{IsTimedBy}
use Rattle.streetmap_outlines.proofs.bounds.bounds_of_seconds_too.Goals as goal

-- seconds within bounds lie within wider ones
wider : (s b : Option (ℤ × ℤ)) (first last most least : ℤ) → b ≡ Some (first, last) → first ≤ℤ most → least ≤ℤ last → IsTimedBy s b →
    IsTimedBy s (Some (most, least))
wider s b first last most least is p q within = by s (subst (IsTimedBy s) is within) where
  by : (s : Option (ℤ × ℤ)) → IsTimedBy s (Some (first, last)) → IsTimedBy s (Some (most, least))
  by None h = h
  by (Some (from, to)) h =
      let one : from ≤ℤ first = h.0 in
      let two : last ≤ℤ to = h.1 in (
        omega (arith, ints, one, p),
        omega (arith, ints, two, q),
      )

pub returns-in-Some-Some-clause-bounds : goal.returns-in-Some-Some-clause-bounds
returns-in-Some-Some-clause-bounds c = λ s within.
    let first = c.in-Some-Some.first in
    let last = c.in-Some-Some.last in
    let most = c.max.result in
    let least = c.min.result in
    let first_fits : SFits w64 first = search rules in
    let last_fits : SFits w64 last = search rules in
    let most_fits : SFits w64 most = search rules in
    let least_fits : SFits w64 least = search rules in
    let up : first ≤ℤ most = subst (λ x. x ≤ℤ most) (to_z-of_z w64 first first_fits) c.max.ensures.self_bound in
    let down : least ≤ℤ last = subst (λ x. least ≤ℤ x) (to_z-of_z w64 last last_fits) c.min.ensures.self_bound in
    rw (to_z-of_z w64 most most_fits, to_z-of_z w64 least least_fits) (wider s c.args.bounds first last most least c.in-Some-Some.is-0 up down within)
