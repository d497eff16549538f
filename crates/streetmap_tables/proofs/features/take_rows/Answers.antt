use Rattle.std.proofs.Common.{arith, rules, [], sym, subst}
use Rattle.std.proofs.lemmas.Grind.{common_steps}
use Rattle.sqlite.specs.Held.{state}
use Rattle.streetmap_rows.proofs.QueriesInside.{keeps_shown, keeps_failed, inside_shown}
use Rattle.streetmap_tables.specs.Part.{IsMemoryOrStore}
use Rattle.streetmap_tables.proofs.SelectOld.{rows_text}
use Rattle.streetmap_tables.proofs.OldRowsRead.{rows_shown, rows_reported}
use Rattle.streetmap_rows.proofs.ErrorReasons.{queried_inside}
use Rattle.streetmap_tables.proofs.Reasons.{reason_in}
use Rattle.streetmap_tables.proofs.ShownByReads.{seen, rows_bare}
use Rattle.streetmap_tables.proofs.features.take_rows.Goals as goal

pub returns-in-Ok : goal.returns-in-Ok
returns-in-Ok g c = record {
  same_reference = first_of (search rules, grind (arith, common_steps));
  does = λ clean. record {
    takes = λ s limit keeps. rows_shown (state g.S.Store c.args.tx.now.conn.now) (state g.S.Store c.query_all.new.self.conn.now) s keeps c.in-Ok.rows.items
        (c.in-Ok.ensures.ok clean);
    shown = (seen rows_text rows_bare (state g.S.Store c.args.tx.now.conn.now) (state g.S.Store c.query_all.new.self.conn.now) c.in-Ok.rows.items
        (c.in-Ok.ensures.ok clean)).0;
    same = (seen rows_text rows_bare (state g.S.Store c.args.tx.now.conn.now) (state g.S.Store c.query_all.new.self.conn.now) c.in-Ok.rows.items
        (c.in-Ok.ensures.ok clean)).1.0.now_is;
  };
  inside = λ clean inside. inside_shown rows_text [] (state g.S.Store c.args.tx.now.conn.now) (state g.S.Store c.query_all.new.self.conn.now) inside
      c.in-Ok.rows.items (c.in-Ok.ensures.ok clean);
  kept = λ clean inside. keeps_shown rows_text [] (state g.S.Store c.args.tx.now.conn.now) (state g.S.Store c.query_all.new.self.conn.now) inside
      c.in-Ok.rows.items (c.in-Ok.ensures.ok clean);
  reason = first_of (search rules, grind (arith, common_steps));
  survives = first_of (search rules, grind (arith, common_steps));
}

pub returns-in-Err : goal.returns-in-Err
returns-in-Err g c = record {
  same_reference = first_of (search rules, grind (arith, common_steps));
  does = λ clean. record {
    takes = λ s limit keeps.
        let of = rows_reported (state g.S.Store c.args.tx.now.conn.now) (state g.S.Store c.query_all.new.self.conn.now) s keeps limit c.in-Err.error
        (c.in-Err.ensures.err clean) in
        subst IsMemoryOrStore (sym (c.fault_of.ensures.store of)) of;
    shown = first_of (search rules, grind (arith, common_steps));
    same = first_of (search rules, grind (arith, common_steps));
  };
  inside = first_of (search rules, grind (arith, common_steps));
  kept = λ clean inside. keeps_failed rows_text [] (state g.S.Store c.args.tx.now.conn.now) (state g.S.Store c.query_all.new.self.conn.now) inside
      c.in-Err.error (c.in-Err.ensures.err clean);
  reason = λ clean.
      let old = state g.S.Store c.args.tx.now.conn.now in
      let new = state g.S.Store c.query_all.new.self.conn.now in
      reason_in old new c.in-Err.error _ c.fault_of.ensures.only (queried_inside old new rows_text [] c.in-Err.error (c.in-Err.ensures.err clean));
  survives = first_of (search rules, grind (arith, common_steps));
}
