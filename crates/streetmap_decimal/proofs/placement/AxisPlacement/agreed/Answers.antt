use Rattle.std.proofs.Common.{subst, sym, Result, ℤ, ◌∙◌, ◌≡◌}
use Rattle.std.specs.Int.{w128}
use Rattle.std.proofs.lemmas.Int.{to_z-of_z}
use Rattle.streetmap_decimal.specs.declared.fault.DecimalFault.{DecimalFault}
use Rattle.streetmap_decimal.specs.Grid.{RoundsTo, Agrees, placed}
use Rattle.streetmap_decimal.proofs.Rounded.{agrees_ok, agrees_err, differ, do_not_differ}
use Rattle.streetmap_decimal.proofs.placement.AxisPlacement.agreed.Goals as goal

pub returns-then-ne : goal.returns-then-ne
returns-then-ne c =
    let p = c.args.self.now in
    let a = c.nearest-number.result in
    let b = c.nearest.result in
    let near = subst (λ (n : ℤ). RoundsTo (placed p.shift p.scale n) a)
    (to_z-of_z w128 c.args.near c.ranges.near) c.nearest-number.ensures in
    let far = subst (λ (n : ℤ). RoundsTo (placed p.shift p.scale n) b)
    (to_z-of_z w128 c.args.far c.ranges.far) c.nearest.ensures in
    agrees_err (placed p.shift p.scale c.args.near) (placed p.shift p.scale c.args.far) a b near far
    (differ a b (sym c.ne.ensures ∙ c.if-ne.true))

pub returns : goal.returns
returns c =
    let p = c.args.self.now in
    let y = placed p.shift p.scale c.args.near in
    let z = placed p.shift p.scale c.args.far in
    let a = c.nearest-number.result in
    let b = c.nearest.result in
    let near = subst (λ (n : ℤ). RoundsTo (placed p.shift p.scale n) a)
    (to_z-of_z w128 c.args.near c.ranges.near) c.nearest-number.ensures in
    let far = subst (λ (n : ℤ). RoundsTo (placed p.shift p.scale n) b)
    (to_z-of_z w128 c.args.far c.ranges.far) c.nearest.ensures in
    let same : b ≡ a = do_not_differ a b (sym c.ne.ensures ∙ c.if-ne.false) in
    subst (λ (r : Result ℤ DecimalFault). Agrees y z r) (sym c.ok_or.ensures.value)
    (agrees_ok y z a near (subst (RoundsTo z) same far))
