use Rattle.std.proofs.Common.{arith, rules, ◌≡◌, ◌∙◌, Some, pos, sym, subst, length}
use Rattle.std.proofs.lemmas.Grind.{common_steps}
use Rattle.sqlite.specs.Held.{state}
use Rattle.sqlite.specs.State.{HasCleanDisk}
use Rattle.streetmap_tables.specs.QueryResults.{format_in, IsFoundIn}
use Rattle.streetmap_tables.proofs.BeforeCleanEnd.{clean_back, is_handed}
use Rattle.streetmap_rows.specs.KeptStates.{Keeps}
use Rattle.streetmap_rows.proofs.ErrorReasons.{reason_later}
use Rattle.streetmap_tables.proofs.ShownByReads.{serials_there, unseen_serials_there, unread_found}
use Rattle.streetmap_tables.proofs.ShownByReads.{unread_never, unread_reason}
use Rattle.streetmap_rows.proofs.CallsInside.{runs_of, runs_ok, runs_err, runs_both}
use Rattle.streetmap_tables.proofs.adoption.find_inside.Goals as goal

pub returns-in_err-rows-clause-runs : goal.returns-in_err-rows-clause-runs
returns-in_err-rows-clause-runs g c =
    runs_err (runs_of c.in_err-rows.ensures) c.from_residual.ensures.1 (λ clean. record {
      finds = first_of (search rules, grind (arith, common_steps));
      reports =
          let handed = is_handed c.from_residual.result c.in_err-rows.field-0.0 c.from_residual.ensures.1 in
          subst (IsFoundIn (state g.S.Store c.args.tx.now.conn.now)) (sym handed) (λ other. (c.in_err-rows.ensures.does clean).reports other);
    })

pub returns-clause-runs : goal.returns-clause-runs
returns-clause-runs g c = record {
  same_reference = first_of (search rules, grind (arith, common_steps));
  does = λ clean. record {
    finds = λ s limit keeps.
        let mid = state g.S.Store c.read_format.new.tx.conn.now in
        let new = state g.S.Store c.read_serials.new.tx.conn.now in
        let early : HasCleanDisk mid = clean_back mid new _ c.read_serials.ensures.survives clean in
        let found = (c.in_ok-rows.ensures.does early).finds s limit keeps in
        unread_never _ c.unread_by.result c.in-Err.error c.unread_by.ensures
        ((c.in-Err.ensures.does clean).finds s (c.read_format.ensures.survives.limit ∙ limit) (subst (Keeps s) (sym found.1.0.now_is) keeps));
    reports =
        let old = state g.S.Store c.args.tx.now.conn.now in
        let mid = state g.S.Store c.read_format.new.tx.conn.now in
        let new = state g.S.Store c.read_serials.new.tx.conn.now in
        let early : HasCleanDisk mid = clean_back mid new _ c.read_serials.ensures.survives clean in
        let reported = (c.in_ok-rows.ensures.does early).reports in
        let same = reported.1.0 in
        let format : format_in c.in_ok-rows.rows.items ≡ Some (pos 2) = search rules in
        unread_found old c.unread_by.result c.in-Err.error c.unread_by.ensures (c.in_ok-rows.rows.items, reported.0, format)
        (λ other. unseen_serials_there mid old same.now_is c.read_format.ensures.survives.limit (λ _. same.was_open)
        ((c.in-Err.ensures.does clean).reports other));
  };
  reason = λ clean.
      let old = state g.S.Store c.args.tx.now.conn.now in
      let mid = state g.S.Store c.read_format.new.tx.conn.now in
      let new = state g.S.Store c.read_serials.new.tx.conn.now in
      let early : HasCleanDisk mid = clean_back mid new _ c.read_serials.ensures.survives clean in
      unread_reason old new c.unread_by.result c.in-Err.error c.unread_by.ensures
      (reason_later old mid new c.in-Err.error _ c.read_format.ensures.survives early c.read_serials.ensures.survives.counts (c.in-Err.ensures.reason clean));
  survives = first_of (search rules, grind (arith, common_steps));
}

pub returns-in-Ok-clause-runs : goal.returns-in-Ok-clause-runs
returns-in-Ok-clause-runs g c =
    runs_ok (runs_both (runs_of c.in_ok-rows.ensures) (runs_of c.in-Ok.ensures)) (λ clean. record {
      finds = first_of (search rules, grind (arith, common_steps));
      reports =
          let old = state g.S.Store c.args.tx.now.conn.now in
          let mid = state g.S.Store c.read_format.new.tx.conn.now in
          let new = state g.S.Store c.read_serials.new.tx.conn.now in
          let early : HasCleanDisk mid = clean_back mid new _ c.read_serials.ensures.survives clean in
          let reported = (c.in_ok-rows.ensures.does early).reports in
          let same = reported.1.0 in
          let format : format_in c.in_ok-rows.rows.items ≡ Some (pos 2) = search rules in
          let counted : c.len.result ≡ length c.in-Ok.serials.items = search rules in (
            (c.in_ok-rows.rows.items, reported.0, format),
            (
              c.in-Ok.serials.items,
              serials_there mid old same.now_is c.read_format.ensures.survives.limit
                  (λ _. same.was_open) c.in-Ok.serials.items ((c.in-Ok.ensures.does clean).reports).0,
              counted,
            ),
          );
    })
