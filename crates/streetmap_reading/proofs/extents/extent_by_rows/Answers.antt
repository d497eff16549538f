use Rattle.std.proofs.Common.{◌∷◌, [], None, Ok, Err, ap}
use Rattle.std.specs.FinMap.{values}
use Rattle.std.specs.List.{AllByRecursion}
use Rattle.sqlite.specs.Held.{state}
use Rattle.sqlite.specs.Order.{Row}
use Rattle.sqlite.specs.declared.types.Value.TheVariants.{Text as Words}
use Rattle.streetmap_geojson.specs.FeatureValue.{FeatureValue}
use Rattle.streetmap_ledger.specs.Summaries.{all_vertices}
use Rattle.streetmap_rows.proofs.ResultCases.{handed_on}
use Rattle.streetmap_reading.proofs.Folded.{folded_such}
use Rattle.streetmap_reading.specs.Held.{HoldsBounds}
use Rattle.streetmap_reading.specs.Statements.{select_extents_in_turn}
use Rattle.streetmap_reading.specs.PassResults.{features_in}
use Rattle.streetmap_reading.specs.Views.{extent_row, feature_extent, IsExtentRow}
use Rattle.streetmap_reading.proofs.PositionBounds.{bounds_extent}
use Rattle.streetmap_reading.proofs.RowsInTurn.{none_mapped}
use Rattle.streetmap_reading.proofs.ShownOutlines.{AreExtentsOnce, extents_in_turn_at}
use Rattle.streetmap_reading.proofs.ShownOutlines.{extents_once_fine, extents_once}
use Rattle.streetmap_rows.proofs.ReadsInTurn.{reads_by}
use Rattle.streetmap_reading.proofs.extents.extent_by_rows.Goals as goal

abbrev row_of : FeatureValue → Row
row_of f = extent_row (feature_extent f)

pub returns : goal.returns
returns g c =
    reads_by select_extents_in_turn _ c.in_ok-fold_rows.ensures (λ s keeps. (extents_in_turn_at _ s keeps c.args.collection.now).plain)
    (λ clean took s limit keeps.
    let name = c.args.collection.now in
    let old = state g.S.Store c.args.conn.now in
    let new = state g.S.Store c.fold_rows.new.conn in
    let all = rw c.params-to_sql.ensures at took in
    let took = folded_such (λ _. HoldsBounds) (λ _. AllByRecursion IsExtentRow)
    select_extents_in_turn (Words name ∷ []) old new None c.fold_rows.new.fold
    (AreExtentsOnce _ s keeps name) (extents_in_turn_at _ s keeps name) limit
    (extents_once_fine _ s keeps name) (Ok tt) all
    (λ fs is fine. ap all_vertices (none_mapped row_of fs is)) in (
      bounds_extent (all_vertices (values (features_in s name))) _
          (extents_once _ s keeps name took.0.0 took.0.1 c.fold_rows.new.fold took.0.2),
      took.1,
    ))

pub returns-in_err-fold_rows : goal.returns-in_err-fold_rows
returns-in_err-fold_rows g c =
    reads_by select_extents_in_turn _ c.in_err-fold_rows.ensures (λ s keeps. (extents_in_turn_at _ s keeps c.args.collection.now).plain)
    (λ clean took s limit keeps.
    let name = c.args.collection.now in
    let old = state g.S.Store c.args.conn.now in
    let new = state g.S.Store c.fold_rows.new.conn in
    let all = rw c.params-to_sql.ensures at took in
    handed_on _ _ _ _ c.from_residual.ensures.1
    (folded_such (λ _. HoldsBounds) (λ _. AllByRecursion IsExtentRow) select_extents_in_turn
    (Words name ∷ []) old new None c.fold_rows.new.fold (AreExtentsOnce _ s keeps name)
    (extents_in_turn_at _ s keeps name) limit (extents_once_fine _ s keeps name)
    (Err c.in_err-fold_rows.field-0.0) all
    (λ fs is fine. ap all_vertices (none_mapped row_of fs is))))
