use Rattle.std.proofs.Common.{rules}
use Rattle.std.specs.FinMap.{get}
use Rattle.streetmap_rows.specs.Views.{collection_view}
use Rattle.streetmap_rows.proofs.OneRowChosen.{none_empty}
use Rattle.streetmap_rows.proofs.ResultCases.{handed_on}
use Rattle.streetmap_rows.proofs.CallsInside.{runs_of, runs_ok, runs_err}
use Rattle.streetmap_tables.proofs.edits.has_collection.Goals as goal

pub returns : goal.returns
returns g c =
    runs_ok (runs_of c.in_ok-rows.ensures) (λ clean limit s represented.
    let r = (c.in_ok-rows.ensures.does clean).rows limit s represented in
    (none_empty collection_view (get s.collections c.args.collection.now) _ r.0 c.is_empty.result (search rules), r.1))

pub returns-in_err-rows : goal.returns-in_err-rows
returns-in_err-rows g c =
    runs_err (runs_of c.in_err-rows.ensures) c.from_residual.ensures.1 (λ clean limit s represented.
    handed_on _ _ _ _ c.from_residual.ensures.1 ((c.in_err-rows.ensures.does clean).rows limit s represented))
