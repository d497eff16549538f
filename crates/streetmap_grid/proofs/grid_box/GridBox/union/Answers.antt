use Rattle.std.proofs.Common.{◌≡◌, FitsSigned, arith, w64, rules, sym, subst, ◌++◌}
use Rattle.std.specs.Int.{int_min, int_max}
use Rattle.std.proofs.lemmas.Int.{ints, to_z-of_z}
use Rattle.streetmap_grid.specs.Range.{IsBound}
use Rattle.streetmap_grid.specs.Views.{box_value}
use Rattle.streetmap_grid.specs.Extent.{IsExtent, union}
use Rattle.streetmap_grid.proofs.Growing.{made_box, min_in, max_in, min_below, extent_both}
use Rattle.streetmap_grid.proofs.grid_box.GridBox.union.Goals as goal

pub invariant_of-result : goal.invariant_of-result
invariant_of-result c =
    let a = c.args.self.now in
    let b = c.args.other.now in
    let ax0 : FitsSigned w64 c.args.self.now.x0 = omega (arith, ints) in
    let ay0 : FitsSigned w64 c.args.self.now.y0 = omega (arith, ints) in
    let ax1 : FitsSigned w64 c.args.self.now.x1 = omega (arith, ints) in
    let ay1 : FitsSigned w64 c.args.self.now.y1 = omega (arith, ints) in
    let bx0 : FitsSigned w64 c.args.other.now.x0 = omega (arith, ints) in
    let by0 : FitsSigned w64 c.args.other.now.y0 = omega (arith, ints) in
    let bx1 : FitsSigned w64 c.args.other.now.x1 = omega (arith, ints) in
    let by1 : FitsSigned w64 c.args.other.now.y1 = omega (arith, ints) in
    let g0 : FitsSigned w64 c.min.result = search rules in
    let g1 : FitsSigned w64 c.min-2.result = search rules in
    let g2 : FitsSigned w64 c.max.result = search rules in
    let g3 : FitsSigned w64 c.max-2.result = search rules in
    let e0 : c.min.result ≡ int_min a.x0 b.x0 = simp to_z-of_z at c.min.ensures.value in
    let e1 : c.min-2.result ≡ int_min a.y0 b.y0 = simp to_z-of_z at c.min-2.ensures.value in
    let e2 : c.max.result ≡ int_max a.x1 b.x1 = simp to_z-of_z at c.max.ensures.value in
    let e3 : c.max-2.result ≡ int_max a.y1 b.y1 = simp to_z-of_z at c.max-2.ensures.value in
    record {
      west = simp to_z-of_z (subst IsBound (sym e0) (min_in a.x0 b.x0 a.west b.west));
      south = simp to_z-of_z (subst IsBound (sym e1) (min_in a.y0 b.y0 a.south b.south));
      east = simp to_z-of_z (subst IsBound (sym e2) (max_in a.x1 b.x1 a.east b.east));
      north = simp to_z-of_z (subst IsBound (sym e3) (max_in a.y1 b.y1 a.north b.north));
      wide = simp to_z-of_z (min_below a.x0 a.x1 b.x0 b.x1 c.min.result c.max.result a.wide e0 e2);
      tall = simp to_z-of_z (min_below a.y0 a.y1 b.y0 b.y1 c.min-2.result c.max-2.result a.tall e1 e3);
    }

pub returns : goal.returns
returns c =
    let a = c.args.self.now in
    let b = c.args.other.now in
    let ax0 : FitsSigned w64 c.args.self.now.x0 = omega (arith, ints) in
    let ay0 : FitsSigned w64 c.args.self.now.y0 = omega (arith, ints) in
    let ax1 : FitsSigned w64 c.args.self.now.x1 = omega (arith, ints) in
    let ay1 : FitsSigned w64 c.args.self.now.y1 = omega (arith, ints) in
    let bx0 : FitsSigned w64 c.args.other.now.x0 = omega (arith, ints) in
    let by0 : FitsSigned w64 c.args.other.now.y0 = omega (arith, ints) in
    let bx1 : FitsSigned w64 c.args.other.now.x1 = omega (arith, ints) in
    let by1 : FitsSigned w64 c.args.other.now.y1 = omega (arith, ints) in
    let g0 : FitsSigned w64 c.min.result = search rules in
    let g1 : FitsSigned w64 c.min-2.result = search rules in
    let g2 : FitsSigned w64 c.max.result = search rules in
    let g3 : FitsSigned w64 c.max-2.result = search rules in
    let e0 : c.min.result ≡ int_min a.x0 b.x0 = simp to_z-of_z at c.min.ensures.value in
    let e1 : c.min-2.result ≡ int_min a.y0 b.y0 = simp to_z-of_z at c.min-2.ensures.value in
    let e2 : c.max.result ≡ int_max a.x1 b.x1 = simp to_z-of_z at c.max.ensures.value in
    let e3 : c.max-2.result ≡ int_max a.y1 b.y1 = simp to_z-of_z at c.max-2.ensures.value in
    let same = made_box (record { x0 = c.min.result; y0 = c.min-2.result; x1 = c.max.result; y1 = c.max-2.result }) (union (box_value a) (box_value b)) e0 e1 e2 e3 in
    record {
      value = simp to_z-of_z same;
      extent = λ ps qs g h. simp to_z-of_z (subst (IsExtent (ps ++ qs)) (sym same) (extent_both ps qs (box_value a) (box_value b) g h));
    }
