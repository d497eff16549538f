use Rattle.std.proofs.Common.{[], inl, refl, rules, arith}
use Rattle.sqlite.specs.Held.{state}
use Rattle.streetmap_tables.proofs.BeforeCleanEnd.{is_handed}
use Rattle.streetmap_checking.specs.Good.{AreFormatRows}
use Rattle.streetmap_checking.specs.Held.{HoldsFormatRows, IsGoodFormat}
use Rattle.streetmap_checking.specs.Statements.{select_formats}
use Rattle.streetmap_checking.specs.QueryResults.{not_good}
use Rattle.streetmap_checking.proofs.Found.{format_found, format_lost}
use Rattle.streetmap_checking.proofs.ReadResults.{stopped, handed}
use Rattle.streetmap_checking.proofs.Simple.{query_so, formats_simple}
use Rattle.streetmap_checking.proofs.queries.check_format.Goals as goal

pub returns-in_err-fold_rows : goal.returns-in_err-fold_rows
returns-in_err-fold_rows g c =
    query_so select_formats _ formats_simple c.fold_rows.ensures (λ clean.
    let old = state g.S.Store c.args.conn.now in
    let new = state g.S.Store c.fold_rows.new.conn in
    handed _ _ old new _ _ (is_handed _ _ c.from_residual.ensures.1) (stopped HoldsFormatRows IsGoodFormat select_formats [] (record { found = 0 })
    AreFormatRows (λ rows good. good) old new c.in_err-fold_rows.field-0.0 (c.in_err-fold_rows.ensures.shows clean (formats_simple _) (inl (refl, refl)))))

pub returns-then-rows-eq0 : goal.returns-then-rows-eq0
returns-then-rows-eq0 g c =
    query_so select_formats _ formats_simple c.fold_rows.ensures (λ clean.
    let r = c.in_ok-fold_rows.ensures.shows clean (formats_simple _) (inl (refl, refl)) in
    (not_good r.0.0 r.0.1 (format_lost (record { found = 0 }) c.fold_rows.new.fold r.0.0 r.0.2 (search rules)), r.1))

pub returns : goal.returns
returns g c =
    query_so select_formats _ formats_simple c.fold_rows.ensures (λ clean.
    let r = c.in_ok-fold_rows.ensures.shows clean (formats_simple _) (inl (refl, refl)) in
    ((r.0.0, r.0.1, format_found (record { found = 0 }) c.fold_rows.new.fold r.0.0 r.0.2 (λ none. absurd (omega (arith, none)))), r.1))
