use Rattle.std.proofs.Common.{◌≡◌, IsTrue, get_or, subst, sym, ◌∙◌, arith}
use Rattle.std.proofs.lemmas.List.{take_all}
use Rattle.std.proofs.lemmas.Bool.{both_ways}
use Rattle.streetmap_cells.specs.Envelopes.{overlaps}
use Rattle.streetmap_cells.specs.Searches.{is_marked, AreMarked, KeepsMarks}
use Rattle.streetmap_cells.specs.declared.cells.Entry.{Entry}
use Rattle.streetmap_cells.specs.declared.marks.Marks.{Marks}
use Rattle.streetmap_cells.proofs.Marking.{next_marked}
use Rattle.streetmap_cells.proofs.cells.Cells.mark_entries.Goals as goal
use Rattle.streetmap_cells.proofs.cells.Cells.mark_entries.Goals.{then-overlaps, else-overlaps}

pub loop-entry-preserved : goal.loop-entry-preserved
loop-entry-preserved c =
    let inv = c.loop-entry.invariant in
    let old = c.loop-entry.marks in
    let window = c.args.window.now in
    let es = c.args.entries.now in
    let i = c.loop-entry.entry-index in
    let d : Entry = record { extent = record { x0 = 0; y0 = 0; x1 = 0; y1 = 0 }; chunk = 0 } in
    let said : c.overlaps.result ≡ overlaps (get_or es i d).extent window = c.overlaps.ensures in
    elim c.if-overlaps.branch [
      | then-overlaps w ↦
          let new : Marks = c.if-overlaps.marks in
          let keeps : KeepsMarks old new = subst (KeepsMarks old) (sym w.marks-is) w.mark.ensures.kept in
          let one : IsTrue (is_marked new (get_or es i d).chunk) = subst (λ m. IsTrue (is_marked m (get_or es i d).chunk)) (sym w.marks-is) w.mark.ensures.marked in
          record { marked = next_marked window old new es i d (omega arith) keeps (λ over. one) inv.marked; kept = λ chunk m. keeps chunk (inv.kept chunk m) }
      | else-overlaps w ↦
          let new : Marks = c.if-overlaps.marks in
          let keeps : KeepsMarks old new = subst (KeepsMarks old) (sym w.marks-is) (λ chunk m. m) in
          record {
            marked = next_marked window old new es i d (omega arith) keeps (λ over. absurd (both_ways (overlaps (get_or es i d).extent window) (sym said ∙ w.if-overlaps.false) over)) inv.marked;
            kept = λ chunk m. keeps chunk (inv.kept chunk m);
          }
    ]

pub returns-clause-marked : goal.returns-clause-marked
returns-clause-marked c =
    subst (λ es. AreMarked c.args.window.now c.loop-entry.marks es) (take_all c.loop-entry.entry-index c.args.entries.now (omega arith)) c.loop-entry.invariant.marked
