use Rattle.std.proofs.Common.{◌≡◌, [], None, false, refl, sym, subst, ◌∙◌, length, rules}
use Rattle.std.proofs.lemmas.Result.{err_from_is_err_and}
use Rattle.sqlite.specs.Held.{state}
use Rattle.streetmap_tables.proofs.BeforeCleanEnd.{is_handed}
use Rattle.streetmap_checking.specs.Good.{AreBatchRows, AreSerials}
use Rattle.streetmap_checking.specs.Held.{HoldsBatchRows, IsGoodBatches}
use Rattle.streetmap_checking.specs.Statements.{select_batches}
use Rattle.streetmap_checking.specs.QueryResults.{not_good}
use Rattle.streetmap_checking.proofs.Found.{no_serials, as_many}
use Rattle.streetmap_checking.proofs.ReadResults.{stopped, handed}
use Rattle.streetmap_checking.proofs.Simple.{query_so, batches_simple}
use Rattle.streetmap_checking.proofs.queries.check_batches.Goals as goal

pub returns-in_err-fold_rows : goal.returns-in_err-fold_rows
returns-in_err-fold_rows g c =
    query_so select_batches _ batches_simple c.fold_rows.ensures (λ clean.
    let old = state g.S.Store c.args.conn.now in
    let new = state g.S.Store c.fold_rows.new.conn in
    handed _ _ old new _ _ (is_handed _ _ c.from_residual.ensures.1)
    (stopped HoldsBatchRows IsGoodBatches select_batches [] (record { last = None; serials = c.new-serials.result }) AreBatchRows (λ rows good. good) old new
    c.in_err-fold_rows.field-0.0 (c.in_err-fold_rows.ensures.shows clean (batches_simple _)
    (record { are = record { entries = []; are = refl; rising = tt; fine = tt }; last = refl; serials = c.new-serials.ensures.items }))))

pub returns-in_err-are : goal.returns-in_err-are
returns-in_err-are g c =
    query_so select_batches _ batches_simple c.fold_rows.ensures (λ clean.
    let r = c.in_ok-fold_rows.ensures.shows clean (batches_simple _) (record {
      are = record { entries = []; are = refl; rising = tt; fine = tt };
      last =
          refl;
      serials = c.new-serials.ensures.items;
    }) in
    let p = err_from_is_err_and c.from_residual-in_err-are.result c.from_residual-in_err-are.ensures.1 in
    rw (p.1, p.2) r.1)

pub returns-then-not-are : goal.returns-then-not-are
returns-then-not-are g c =
    query_so select_batches _ batches_simple c.fold_rows.ensures (λ clean.
    let r = c.in_ok-fold_rows.ensures.shows clean (batches_simple _) (record {
      are = record { entries = []; are = refl; rising = tt; fine = tt };
      last =
          refl;
      serials = c.new-serials.ensures.items;
    }) in
    let off : c.in_ok-are.are ≡ false = search rules in (
      not_good r.0.0 r.0.1 (no_serials r.0.0 r.0.2.are _ r.0.2.serials (λ good. absurd (let on = sym off
          ∙ c.in_ok-are.ensures.1 (subst AreSerials (search rules) good) in cc))),
      r.1,
    ))

pub returns : goal.returns
returns g c =
    query_so select_batches _ batches_simple c.fold_rows.ensures (λ clean.
    let r = c.in_ok-fold_rows.ensures.shows clean (batches_simple _) (record {
      are = record { entries = []; are = refl; rising = tt; fine = tt };
      last =
          refl;
      serials = c.new-serials.ensures.items;
    }) in
    let are : AreSerials c.fold_rows.new.fold.serials.items = search rules in
    let count : c.len.result ≡ length c.fold_rows.new.fold.serials.items = search rules in
    ((r.0.0, r.0.1, (r.0.2.are, subst AreSerials r.0.2.serials are), count ∙ as_many r.0.2.are.entries _ r.0.2.serials), r.1))
