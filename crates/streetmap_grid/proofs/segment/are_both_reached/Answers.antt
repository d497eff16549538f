use Rattle.std.proofs.Common.{◌≡◌, ◌<◌, ◌≤◌, ℤ, pos, negsuc, ◌≤ℤ◌, ◌*ℤ◌, false, FitsSigned, arith, w64}
use Rattle.std.specs.Prelude.{IsTrue, int_le, int_lt}
use Rattle.std.proofs.lemmas.Int.{ints, to_z-of_z}
use Rattle.streetmap_grid.specs.Slab.{AreBothReached}
use Rattle.streetmap_grid.proofs.segment.are_both_reached.Goals as goal
use Rattle.streetmap_grid.proofs.segment.are_both_reached.Goals.{then-a-lt0-via-then-a-lt0, then-a-lt0-via-else-a-lt0+then-a, then-a-lt0-via-else-a-lt0+else-a+then-b-lt0, then-a-lt0-via-else-a-lt0+else-a+else-b-lt0+then-b}

pub returns-then-a-lt0 : goal.returns-then-a-lt0
returns-then-a-lt0 c = (
  λ t. cc,
  λ r.
      elim c.then-a-lt0.branch [
        | then-a-lt0-via-then-a-lt0 w ↦ absurd (omega (arith, ints))
        | then-a-lt0-via-else-a-lt0+then-a w ↦ absurd (omega (arith, ints))
        | then-a-lt0-via-else-a-lt0+else-a+then-b-lt0 w ↦ absurd (omega (arith, ints))
        | then-a-lt0-via-else-a-lt0+else-a+else-b-lt0+then-b w ↦ absurd (omega (arith, ints))
      ],
)

pub returns-then-product : goal.returns-then-product
returns-then-product c =
    let n : FitsSigned w64 c.args.a.near = omega (arith, ints) in
    let m : FitsSigned w64 c.args.a.far = omega (arith, ints) in
    let d : FitsSigned w64 c.args.a.along = omega (arith, ints) in
    let n' : FitsSigned w64 c.args.b.near = omega (arith, ints) in
    let m' : FitsSigned w64 c.args.b.far = omega (arith, ints) in
    let d' : FitsSigned w64 c.args.b.along = omega (arith, ints) in
    let e1 = simp to_z-of_z at c.product.ensures in
    let e2 = simp to_z-of_z at c.product-2.ensures in
    (λ t. cc, λ r. absurd (omega (arith, ints)))

-- the last test decides if no test before it did
by_last_test :
    (near far along near' far' along' p q r s : ℤ) →
    int_lt far (pos 0) ≡ false →
    int_lt along near ≡ false →
    int_lt far' (pos 0) ≡ false →
    int_lt along' near' ≡ false →
    int_lt p q ≡ false →
    p ≡ far' *ℤ along →
    q ≡ near *ℤ along' →
    r ≡ near' *ℤ along →
    s ≡ far *ℤ along' →
    (IsTrue (int_le r s) → AreBothReached near far along near' far' along')
    × (AreBothReached near far along near' far' along' → IsTrue (int_le r s))
by_last_test near far along near' far' along' p q r s t1 t2 t3 t4 t5 e1 e2 e3 e4 =
    (λ t. omega (arith, ints), λ h. grind (arith, ints))

side_fits : (n : ℤ) → (negsuc 2999999999 ≤ℤ n) × (n ≤ℤ pos 3000000000) → FitsSigned w64 n
side_fits n h = omega (arith, ints)

along_fits : (n : ℤ) → pos 0 ≤ℤ n → n ≤ℤ pos 2000000000 → FitsSigned w64 n
along_fits n low high = omega (arith, ints)

pub returns : goal.returns
returns c =
    let a = c.args.a in
    let b = c.args.b in
    let n = side_fits a.near a.near_in in
    let m = side_fits a.far a.far_in in
    let d = along_fits a.along a.forward a.short in
    let n' = side_fits b.near b.near_in in
    let m' = side_fits b.far b.far_in in
    let d' = along_fits b.along b.forward b.short in
    let p : FitsSigned w64 c.product.result = omega (arith, ints) in
    let q : FitsSigned w64 c.product-2.result = omega (arith, ints) in
    let r : FitsSigned w64 c.product-3.result = omega (arith, ints) in
    let s : FitsSigned w64 c.product-4.result = omega (arith, ints) in
    let t1 = simp to_z-of_z at c.if-a-lt0.false in
    let t2 = simp to_z-of_z at c.if-a.false in
    let t3 = simp to_z-of_z at c.if-b-lt0.false in
    let t4 = simp to_z-of_z at c.if-b.false in
    let t5 = simp to_z-of_z at c.if-product.false in
    let e1 = simp to_z-of_z at c.product.ensures in
    let e2 = simp to_z-of_z at c.product-2.ensures in
    let e3 = simp to_z-of_z at c.product-3.ensures in
    let e4 = simp to_z-of_z at c.product-4.ensures in
    simp to_z-of_z (by_last_test _ _ _ _ _ _ _ _ _ _ t1 t2 t3 t4 t5 e1 e2 e3 e4)
