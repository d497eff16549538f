-- A box that the grid made of four bounds in range.
use Rattle.std.proofs.Common.{◌≡◌, ℕ, List, length, Option, Some, None, Result, Ok, Err, refl, ap, ◌∙◌, sym, arith, true, false, Bool, inl, inr, ℤ}
use Rattle.std.specs.Prelude.{◌==◌, ◌&&◌, int_le, option_map, IfOk, OnOk, IfErr}
use Rattle.std.proofs.lemmas.Bool.{cases_Bool}
use Rattle.std.proofs.lemmas.Bool.Decides.{nat_tests}
use Rattle.std.proofs.lemmas.Option.{none-some}
use Rattle.streetmap_grid.specs.declared.fault.GridFault.{GridFault}
use Rattle.streetmap_grid.specs.declared.grid_box.GridBox.{GridBox}
use Rattle.streetmap_grid.specs.Faults.{box_fault}
use Rattle.streetmap_grid.specs.Range.{IsBound, is_bound}
use Rattle.streetmap_grid.specs.Values.{BoxValue}
use Rattle.streetmap_grid.specs.Views.{box_value}
use Rattle.streetmap_query.specs.Box.{in_order}

-- a bound passes the test
bound_true : (z : ℤ) → IsBound z → is_bound z ≡ true
bound_true z h = grind (arith, nat_tests)

-- if nothing is left, both tests of the order decide
abbrev both : BoxValue → Bool
both b = int_le b.x0 b.x1 && int_le b.y0 b.y1

fault_by_order : (b : BoxValue) → IsBound b.x0 → IsBound b.y0 → IsBound b.x1 → IsBound b.y1 → both b ≡ true → box_fault b ≡ None
fault_by_order b w s e n order = rw (bound_true b.x0 w, bound_true b.y0 s, bound_true b.x1 e, bound_true b.y1 n, order) refl

not_accepted : (b : BoxValue) → IsBound b.x0 → IsBound b.y0 → IsBound b.x1 → IsBound b.y1 → both b ≡ false → box_fault b ≡ None → ⊥
not_accepted b w s e n order none =
    let bad = rw (bound_true b.x0 w, bound_true b.y0 s, bound_true b.x1 e, bound_true b.y1 n, order) at none in cc

in_order_true : (b : BoxValue) (rest : List ℕ) → (length rest == 0) ≡ true → both b ≡ true → in_order b rest ≡ Some b
in_order_true b rest ends order = grind (arith, nat_tests)

in_order_false : (b : BoxValue) (rest : List ℕ) → (length rest == 0) ≡ true → both b ≡ false → in_order b rest ≡ None
in_order_false b rest ends order = grind (arith, nat_tests)

abbrev ok_of : {A E : Type 0} → Result A E → Option A
ok_of (Ok x) = Some x
ok_of (Err _) = None

pub made : (b : BoxValue) (rest : List ℕ) (r : Result GridBox GridFault) → (length rest == 0) ≡ true → IsBound b.x0 → IsBound b.y0 → IsBound b.x1 → IsBound b.y1
    → IfOk r (λ g. box_value g ≡ b) → OnOk r (box_fault b ≡ None) → IfErr r (λ f. box_fault b ≡ Some f)
    → option_map box_value (ok_of r) ≡ in_order b rest
made b rest (Ok g) ends w s e n same accepted refused =
    elim (cases_Bool (both b)) [
      | inl order ↦ ap Some same ∙ sym (in_order_true b rest ends order)
      | inr disorder ↦ absurd (not_accepted b w s e n disorder accepted)
    ]
made b rest (Err f) ends w s e n same accepted refused =
    elim (cases_Bool (both b)) [
      | inl order ↦ absurd (none-some f (sym (fault_by_order b w s e n order) ∙ refused))
      | inr disorder ↦ sym (in_order_false b rest ends disorder)
    ]
