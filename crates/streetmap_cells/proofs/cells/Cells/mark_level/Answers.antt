use Rattle.std.proofs.Common.{◌≡◌, ◌-◌, subst, arith, inl, inr}
use Rattle.std.proofs.lemmas.Bool.{cases_lt}
use Rattle.streetmap_cells.specs.Searches.{IsCellSearched}
use Rattle.streetmap_cells.proofs.Marking.{level_searched, still_searched}
use Rattle.streetmap_cells.proofs.cells.Cells.mark_level.Goals as goal

pub loop-row-preserved : goal.loop-row-preserved
loop-row-preserved c =
    let inv = c.loop-row.invariant in
    let cells = c.args.self.now in
    let window = c.args.window.now in
    let level = c.args.level in
    let says = c.mark_row.ensures in
    let new = c.mark_row.new.marks in
    record {
      searched = λ row low here. elim (cases_lt row c.loop-row.row) [
        | inl before ↦ λ column first last. still_searched cells window c.loop-row.marks new says.kept _ (inv.searched row low before column first last)
        | inr now ↦
            let same : c.loop-row.row ≡ row = omega arith in
            λ column first last. subst (λ r. IsCellSearched cells window new level column r) same (says.searched column first last)
      ];
      kept = λ chunk m. says.kept chunk (inv.kept chunk m);
    }

pub returns-clause-searched : goal.returns-clause-searched
returns-clause-searched c =
    let window = c.args.window.now in
    let size = c.cell_size-size.result in
    let first_is : c.saturating_sub.result ≡ window.x0 - size = omega (arith, c.saturating_sub.ensures, c.from.ensures) in
    let last_is : c.from-2.result ≡ window.x1 = omega (arith, c.from-2.ensures) in
    let low_is : c.saturating_sub-2.result ≡ window.y0 - size = omega (arith, c.saturating_sub-2.ensures, c.from-3.ensures) in
    let high_is : c.from-4.result ≡ window.y1 = omega (arith, c.from-4.ensures) in
    level_searched c.args.self.now window c.loop-row.marks c.args.level size c.cell_size-size.ensures.value
    (λ row low high column first last.
    let high_here = rw (← high_is) at high in
    c.loop-row.invariant.searched row (rw low_is low) (omega (arith, high_here)) column (rw first_is first) (rw last_is last))
