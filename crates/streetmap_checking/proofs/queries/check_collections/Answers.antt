use Rattle.std.proofs.Common.{[], refl, ap}
use Rattle.sqlite.specs.Held.{state}
use Rattle.streetmap_tables.proofs.BeforeCleanEnd.{is_handed}
use Rattle.streetmap_rows.specs.Statements.{select_collections}
use Rattle.streetmap_checking.specs.Good.{AreCollectionRows}
use Rattle.streetmap_checking.specs.Held.{HoldsCollectionRows, IsGoodCollections, known}
use Rattle.streetmap_checking.proofs.ReadResults.{stopped, handed}
use Rattle.streetmap_checking.proofs.Simple.{query_so, collections_simple}
use Rattle.streetmap_checking.proofs.queries.check_collections.Goals as goal

pub returns-in_err-fold_rows : goal.returns-in_err-fold_rows
returns-in_err-fold_rows g c =
    query_so select_collections _ collections_simple c.fold_rows.ensures (λ clean.
    let old = state g.S.Store c.args.conn.now in
    let new = state g.S.Store c.fold_rows.new.conn in
    handed _ _ old new _ _ (is_handed _ _ c.from_residual.ensures.1)
    (stopped HoldsCollectionRows IsGoodCollections select_collections [] (record { heads = c.new-heads.result }) AreCollectionRows (λ rows good. good) old new
    c.in_err-fold_rows.field-0.0 (c.in_err-fold_rows.ensures.shows clean (collections_simple _)
    (record { entries = []; are = refl; rising = tt; fine = tt }, ap known c.new-heads.ensures.items))))

pub returns : goal.returns
returns g c =
    query_so select_collections _ collections_simple c.fold_rows.ensures (λ clean.
    let r = c.in_ok-fold_rows.ensures.shows clean (collections_simple _) (
      record { entries = []; are = refl; rising = tt; fine = tt },
      ap known c.new-heads.ensures.items,
    ) in
    ((r.0.0, r.0.1, r.0.2.0, r.0.2.1), r.1))
