use Rattle.std.proofs.Common.{◌∷◌, [], Ok, Err}
use Rattle.std.specs.List.{AllByRecursion}
use Rattle.sqlite.specs.Held.{state}
use Rattle.sqlite.specs.declared.types.Value.TheVariants.{Text as Words}
use Rattle.streetmap_rows.proofs.ResultCases.{handed_on}
use Rattle.streetmap_reading.proofs.Folded.{folded_such}
use Rattle.streetmap_reading.proofs.OneRowMore.{outlines_begun}
use Rattle.streetmap_reading.specs.Held.{HoldsOutlines}
use Rattle.streetmap_reading.specs.Statements.{select_outlines_in_turn}
use Rattle.streetmap_reading.specs.Views.{IsOutlineRow}
use Rattle.streetmap_reading.proofs.ShownOutlines.{AreOnce, outlines_in_turn_at, once_fine}
use Rattle.streetmap_reading.proofs.ShownOutlines.{outlines_once}
use Rattle.streetmap_rows.proofs.ReadsInTurn.{reads_by}
use Rattle.streetmap_reading.proofs.outlines.outlines_by_rows.Goals as goal

pub returns : goal.returns
returns g c =
    reads_by select_outlines_in_turn _ c.in_ok-fold_rows.ensures (λ s keeps. (outlines_in_turn_at _ s keeps c.args.collection.now).plain)
    (λ clean took s limit keeps.
    let name = c.args.collection.now in
    let old = state g.S.Store c.args.conn.now in
    let new = state g.S.Store c.fold_rows.new.conn in
    let all = rw c.params-to_sql.ensures at took in
    let took = folded_such (λ _. HoldsOutlines) (λ _. AllByRecursion IsOutlineRow)
    select_outlines_in_turn (Words name ∷ []) old new c.new-outlines.result c.fold_rows.new.fold
    (AreOnce _ s keeps name) (outlines_in_turn_at _ s keeps name) limit (once_fine _ s keeps name)
    (Ok tt) all (outlines_begun c.new-outlines.result c.new-outlines.ensures.items) in
    let sort = c.sort_by_ids.ensures in (
      outlines_once _ s keeps name took.0.0 took.0.1 c.fold_rows.new.fold
          c.sort_by_ids.new.outlines.items took.0.2 sort.same sort.sorted,
      took.1,
    ))

pub returns-in_err-fold_rows : goal.returns-in_err-fold_rows
returns-in_err-fold_rows g c =
    reads_by select_outlines_in_turn _ c.in_err-fold_rows.ensures (λ s keeps. (outlines_in_turn_at _ s keeps c.args.collection.now).plain)
    (λ clean took s limit keeps.
    let name = c.args.collection.now in
    let old = state g.S.Store c.args.conn.now in
    let new = state g.S.Store c.fold_rows.new.conn in
    let all = rw c.params-to_sql.ensures at took in
    handed_on _ _ _ _ c.from_residual.ensures.1
    (folded_such (λ _. HoldsOutlines) (λ _. AllByRecursion IsOutlineRow) select_outlines_in_turn
    (Words name ∷ []) old new c.new-outlines.result c.fold_rows.new.fold (AreOnce _ s keeps name)
    (outlines_in_turn_at _ s keeps name) limit (once_fine _ s keeps name)
    (Err c.in_err-fold_rows.field-0.0) all
    (outlines_begun c.new-outlines.result c.new-outlines.ensures.items)))
