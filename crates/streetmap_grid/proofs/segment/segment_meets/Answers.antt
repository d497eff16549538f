use Rattle.std.proofs.Common.{FitsSigned, arith, w64}
use Rattle.std.proofs.lemmas.Int.{ints, to_z-of_z}
use Rattle.streetmap_grid.proofs.Fractions.{IsCrossed, reach-in, reach-out}
use Rattle.streetmap_grid.specs.Slab.{AreBothReached}
use Rattle.streetmap_grid.proofs.segment.segment_meets.Goals as goal

pub returns : goal.returns
returns c =
    let u = c.slab_of-across.result in
    let v = c.slab_of-up.result in
    let f0 : FitsSigned w64 c.args.a.now.x = omega (arith, ints) in
    let f1 : FitsSigned w64 c.args.b.now.x = omega (arith, ints) in
    let f2 : FitsSigned w64 c.args.a.now.y = omega (arith, ints) in
    let f3 : FitsSigned w64 c.args.b.now.y = omega (arith, ints) in
    let f4 : FitsSigned w64 c.args.area.now.x0 = omega (arith, ints) in
    let f5 : FitsSigned w64 c.args.area.now.x1 = omega (arith, ints) in
    let f6 : FitsSigned w64 c.args.area.now.y0 = omega (arith, ints) in
    let f7 : FitsSigned w64 c.args.area.now.y1 = omega (arith, ints) in
    let xr = simp to_z-of_z at c.slab_of-across.ensures.reached in
    let xw = simp to_z-of_z at c.slab_of-across.ensures.within in
    let yr = simp to_z-of_z at c.slab_of-up.ensures.reached in
    let yw = simp to_z-of_z at c.slab_of-up.ensures.within in (
      λ t.
          let h : IsCrossed u.near u.far u.along v.near v.far v.along =
          reach-in u.near u.far u.along v.near v.far v.along u.ordered v.ordered u.forward v.forward (c.are_both_reached.ensures.0 t) in
          (h.0, (h.1.0, (h.1.1.0, h.1.1.1, h.1.1.2, xw h.0 h.1.0 h.1.1.3, yw h.0 h.1.0 h.1.1.4))),
      λ h.
          let r : AreBothReached u.near u.far u.along v.near v.far v.along =
          reach-out h.0 h.1.0 u.near u.far u.along v.near v.far v.along u.forward v.forward
          (h.1.1.0, h.1.1.1, h.1.1.2, xr h.0 h.1.0 h.1.1.3, yr h.0 h.1.0 h.1.1.4) in
          c.are_both_reached.ensures.1 r,
    )
