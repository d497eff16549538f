use Rattle.std.proofs.Common.{◌∷◌, [], None, Ok, Err, ap, sym, subst, ◌∙◌, rules}
use Rattle.std.specs.FinMap.{entries, values}
use Rattle.std.specs.List.{AllByRecursion}
use Rattle.sqlite.specs.Held.{state}
use Rattle.sqlite.specs.Order.{Row}
use Rattle.sqlite.specs.declared.types.Value.TheVariants.{Text as Words}
use Rattle.streetmap_geojson.specs.FeatureValue.{FeatureValue}
use Rattle.streetmap_ledger.specs.Summaries.{all_vertices}
use Rattle.streetmap_rows.proofs.ResultCases.{handed_on}
use Rattle.streetmap_reading.proofs.Folded.{folded_some}
use Rattle.streetmap_reading.specs.Held.{HoldsBounds}
use Rattle.streetmap_reading.specs.Statements.{select_extents}
use Rattle.streetmap_reading.specs.PassResults.{features_in}
use Rattle.streetmap_reading.specs.Views.{extent_row, feature_extent, IsExtentRow}
use Rattle.streetmap_reading.proofs.PositionBounds.{bounds_extent}
use Rattle.streetmap_reading.proofs.RowsInTurn.{map_again, none_mapped}
use Rattle.streetmap_reading.proofs.ShownOutlines.{extents_at, geometries_fine, extent_rows}
use Rattle.streetmap_rows.proofs.ReadsInTurn.{reads_by}
use Rattle.streetmap_reading.proofs.extents.extent_by_ids.Goals as goal

abbrev row_of : FeatureValue → Row
row_of f = extent_row (feature_extent f)

pub returns : goal.returns
returns g c =
    reads_by select_extents _ c.in_ok-all.ensures (λ s keeps. (extents_at _ s keeps c.args.collection.now).plain) (λ clean took s limit keeps.
    let name = c.args.collection.now in
    let old = state g.S.Store c.args.conn.now in
    let new = state g.S.Store c.fold_first.new.conn in
    let fs = values (features_in s name) in
    let some = rw c.params-to_sql.ensures at took in
    let took = folded_some (λ _. HoldsBounds) (λ _. AllByRecursion IsExtentRow) select_extents
    (Words name ∷ []) old new None c.fold_first.new.fold _ (extents_at _ s keeps name) limit
    (λ rows is. subst (AllByRecursion IsExtentRow) (sym is) (extent_rows _ s keeps name))
    (Ok c.in_ok-all.all) some (λ fs is fine. ap all_vertices (none_mapped row_of fs is)) in
    let all = took.0 (search rules) in
    let are = sym (map_again row_of (λ e. e.1) (entries (features_in s name))) in (
      bounds_extent (all_vertices fs) _
          (all.2 fs (all.1 ∙ are) (geometries_fine _ s keeps name)),
      took.1,
    ))

pub returns-then-not-all : goal.returns-then-not-all
returns-then-not-all g c =
    reads_by select_extents _ c.in_ok-all.ensures (λ s keeps. (extents_at _ s keeps c.args.collection.now).plain) (λ clean took s limit keeps.
    let name = c.args.collection.now in
    let old = state g.S.Store c.args.conn.now in
    let new = state g.S.Store c.fold_first.new.conn in
    let some = rw c.params-to_sql.ensures at took in
    let took = folded_some (λ _. HoldsBounds) (λ _. AllByRecursion IsExtentRow) select_extents
    (Words name ∷ []) old new None c.fold_first.new.fold _ (extents_at _ s keeps name) limit
    (λ rows is. subst (AllByRecursion IsExtentRow) (sym is) (extent_rows _ s keeps name))
    (Ok c.in_ok-all.all) some (λ fs is fine. ap all_vertices (none_mapped row_of fs is)) in
    (tt, took.1))

pub returns-in_err-all : goal.returns-in_err-all
returns-in_err-all g c =
    reads_by select_extents _ c.in_err-all.ensures (λ s keeps. (extents_at _ s keeps c.args.collection.now).plain) (λ clean took s limit keeps.
    let name = c.args.collection.now in
    let old = state g.S.Store c.args.conn.now in
    let new = state g.S.Store c.fold_first.new.conn in
    let some = rw c.params-to_sql.ensures at took in
    handed_on _ _ _ _ c.from_residual.ensures.1
    (folded_some (λ _. HoldsBounds) (λ _. AllByRecursion IsExtentRow) select_extents
    (Words name ∷ []) old new None c.fold_first.new.fold _ (extents_at _ s keeps name) limit
    (λ rows is. subst (AllByRecursion IsExtentRow) (sym is) (extent_rows _ s keeps name))
    (Err c.in_err-all.field-0.0) some (λ fs is fine. ap all_vertices (none_mapped row_of fs is))))
