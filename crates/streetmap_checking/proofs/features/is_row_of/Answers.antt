use Rattle.std.proofs.Common.{◌≡◌, length, rules}
use Rattle.streetmap_rows.specs.Rows.{feature_text}
use Rattle.streetmap_checking.proofs.RowCells.{feature_row, row_cells}
use Rattle.streetmap_checking.proofs.features.is_row_of.Goals as goal

pub returns : goal.returns
returns c =
    let eight : length c.args.row.now ≡ 8 = search rules in
    let text : c.as_str.result.now ≡ feature_text c.args.feature.now = search rules in
    ((λ t. feature_row _ _ _ text eight ((c.has_cells.ensures eight).0 t)), (λ same. (c.has_cells.ensures eight).1 (row_cells _ _ _ text same)))
