use Rattle.sqlite.specs.Held.{state}
use Rattle.streetmap_rows.specs.Statements.{select_collection}
use Rattle.streetmap_rows.proofs.Compiles.{selects_collection, select_collection_is}
use Rattle.streetmap_rows.proofs.KeyReads.{collection_shown, collection_reported_inside}
use Rattle.streetmap_rows.proofs.QueriesInside.{query_inside}
use Rattle.streetmap_rows.proofs.ResultCases.{by_result, on_ok}
use Rattle.streetmap_rows.proofs.SameDatabase.{select_bare, leaves_unchanged}
use Rattle.streetmap_rows.proofs.lookups.collection_rows.Goals as goal

pub returns : goal.returns
returns g c =
    let old = state g.S.Store c.args.tx.now.conn.now in
    let new = state g.S.Store c.query_all.new.self.conn.now in
    let run = c.query_all.ensures in
    query_inside select_collection _ run.same_reference run.ok run.err run.survives (λ clean.
    let ok = rw c.params-to_sql.ensures at (run.ok clean) in
    let err = rw c.params-to_sql.ensures at (run.err clean) in
    record {
      rows = λ limit s represented. by_result c.query_all.result _ _ _ _ ok err (λ rows ran.
          collection_shown old new s represented c.args.collection.now rows.items ran) (λ e ran.
          collection_reported_inside old new s represented limit c.args.collection.now e ran);
      same = on_ok c.query_all.result _ _ (run.ok clean) (λ rows shown. (leaves_unchanged select_collection
          (select_bare selects_collection select_collection_is) _ old new rows.items shown).0.now_is);
    })
