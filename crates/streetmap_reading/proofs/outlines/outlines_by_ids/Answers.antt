use Rattle.std.proofs.Common.{◌∷◌, [], Ok, Err, map, sym, subst, ◌∙◌, rules}
use Rattle.std.specs.FinMap.{entries}
use Rattle.std.specs.List.{AllByRecursion}
use Rattle.sqlite.specs.Held.{state}
use Rattle.sqlite.specs.declared.types.Value.TheVariants.{Text as Words}
use Rattle.streetmap_rows.proofs.ResultCases.{handed_on}
use Rattle.streetmap_reading.proofs.Folded.{folded_some}
use Rattle.streetmap_reading.proofs.OneRowMore.{outlines_begun}
use Rattle.streetmap_reading.specs.Held.{HoldsOutlines}
use Rattle.streetmap_reading.specs.Statements.{select_outlines}
use Rattle.streetmap_reading.specs.PassResults.{features_in}
use Rattle.streetmap_reading.specs.Views.{placed_row, IsOutlineRow}
use Rattle.streetmap_reading.proofs.RowsInTurn.{map_again}
use Rattle.streetmap_reading.proofs.ShownOutlines.{placed, outlines_at, outlines_fine}
use Rattle.streetmap_reading.proofs.ShownOutlines.{outline_rows, outlines_are}
use Rattle.streetmap_rows.proofs.ReadsInTurn.{reads_by}
use Rattle.streetmap_reading.proofs.outlines.outlines_by_ids.Goals as goal

pub returns : goal.returns
returns g c =
    reads_by select_outlines _ c.in_ok-all.ensures (λ s keeps. (outlines_at _ s keeps c.args.collection.now).plain) (λ clean took s limit keeps.
    let name = c.args.collection.now in
    let old = state g.S.Store c.args.conn.now in
    let new = state g.S.Store c.fold_first.new.conn in
    let es = entries (features_in s name) in
    let shown = map (λ e. placed_row (placed _ s keeps name e)) es in
    let some = rw c.params-to_sql.ensures at took in
    let took = folded_some (λ _. HoldsOutlines) (λ _. AllByRecursion IsOutlineRow) select_outlines
    (Words name ∷ []) old new c.new-outlines.result c.fold_first.new.fold _
    (outlines_at _ s keeps name) limit
    (λ rows is. subst (AllByRecursion IsOutlineRow) (sym is) (outline_rows _ s keeps name))
    (Ok c.in_ok-all.all) some (outlines_begun c.new-outlines.result c.new-outlines.ensures.items) in
    let all = took.0 (search rules) in
    let reported = all.2 (map (placed _ s keeps name) es)
    (all.1 ∙ sym (map_again placed_row (placed _ s keeps name) es)) (outlines_fine _ s keeps name)
    in
    (reported ∙ outlines_are _ s keeps name, took.1))

pub returns-then-not-all : goal.returns-then-not-all
returns-then-not-all g c =
    reads_by select_outlines _ c.in_ok-all.ensures (λ s keeps. (outlines_at _ s keeps c.args.collection.now).plain) (λ clean took s limit keeps.
    let name = c.args.collection.now in
    let old = state g.S.Store c.args.conn.now in
    let new = state g.S.Store c.fold_first.new.conn in
    let some = rw c.params-to_sql.ensures at took in
    let took = folded_some (λ _. HoldsOutlines) (λ _. AllByRecursion IsOutlineRow) select_outlines
    (Words name ∷ []) old new c.new-outlines.result c.fold_first.new.fold _
    (outlines_at _ s keeps name) limit
    (λ rows is. subst (AllByRecursion IsOutlineRow) (sym is) (outline_rows _ s keeps name))
    (Ok c.in_ok-all.all) some (outlines_begun c.new-outlines.result c.new-outlines.ensures.items) in
    (tt, took.1))

pub returns-in_err-all : goal.returns-in_err-all
returns-in_err-all g c =
    reads_by select_outlines _ c.in_err-all.ensures (λ s keeps. (outlines_at _ s keeps c.args.collection.now).plain) (λ clean took s limit keeps.
    let name = c.args.collection.now in
    let old = state g.S.Store c.args.conn.now in
    let new = state g.S.Store c.fold_first.new.conn in
    let some = rw c.params-to_sql.ensures at took in
    handed_on _ _ _ _ c.from_residual.ensures.1
    (folded_some (λ _. HoldsOutlines) (λ _. AllByRecursion IsOutlineRow) select_outlines
    (Words name ∷ []) old new c.new-outlines.result c.fold_first.new.fold _
    (outlines_at _ s keeps name) limit
    (λ rows is. subst (AllByRecursion IsOutlineRow) (sym is) (outline_rows _ s keeps name))
    (Err c.in_err-all.field-0.0) some
    (outlines_begun c.new-outlines.result c.new-outlines.ensures.items)))
