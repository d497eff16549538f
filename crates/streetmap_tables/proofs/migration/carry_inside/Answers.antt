use Rattle.std.proofs.Common.{arith, rules, ◌≡◌, sym, subst, ◌∙◌, length}
use Rattle.std.proofs.lemmas.Grind.{common_steps}
use Rattle.sqlite.specs.Held.{state}
use Rattle.streetmap_rows.specs.KeptStates.{Keeps}
use Rattle.streetmap_rows.proofs.ResultCases.{handed_on}
use Rattle.streetmap_tables.proofs.OtherTables.{others_then, others_same, others_elsewhere}
use Rattle.streetmap_tables.proofs.BeforeCleanEnd.{clean_back}
use Rattle.streetmap_tables.specs.Old.{KeepsOld}
use Rattle.streetmap_tables.specs.Part.{emptied, IsMemoryOrStore, PutsEach}
use Rattle.streetmap_tables.proofs.PartOfState.{lacks_all}
use Rattle.streetmap_tables.proofs.CarryingEnds.{held_back}
use Rattle.streetmap_tables.specs.Migration.{IsMigrationError}
use Rattle.sqlite.specs.Effect.{Database}
use Rattle.streetmap_tables.proofs.migration.carry_inside.Goals as goal

pub returns-in_err-rows-clause-runs : goal.returns-in_err-rows-clause-runs
returns-in_err-rows-clause-runs g c = record {
  same_reference = first_of (search rules, grind (arith, common_steps));
  does = λ clean limit inside s keeps. handed_on _ _ _ _ c.from_residual.ensures.1 (held_back (state g.S.Store c.args.tx.now.conn.now).now.schema _
      ((c.in_err-rows.ensures.does clean).takes s limit keeps));
  inside = first_of (search rules, grind (arith, common_steps));
  kept = first_of (search rules, grind (arith, common_steps));
  reason = first_of (search rules, grind (arith, common_steps));
  survives = first_of (search rules, grind (arith, common_steps));
}

pub returns-in_err-put_rows-clause-runs : goal.returns-in_err-put_rows-clause-runs
returns-in_err-put_rows-clause-runs g c = record {
  same_reference = first_of (search rules, grind (arith, common_steps));
  does = λ clean limit inside s keeps.
      let s0 = state g.S.Store c.args.tx.now.conn.now in
      let s1 = state g.S.Store c.take_rows.new.tx.conn.now in
      let s2 = state g.S.Store c.remake_tables.new.tx.conn.now in
      let s3 = state g.S.Store c.put_rows.new.tx.conn.now in
      let k2 = clean_back s2 s3 _ c.put_rows.ensures.runs.survives clean in
      let k1 = clean_back s1 s2 _ c.remake_tables.ensures.runs.survives k2 in
      let taken = (c.in_ok-rows.ensures.does k1).takes s limit keeps in
      let i1 = c.in_ok-rows.ensures.inside k1 inside in
      let i2 = c.in-Ok.ensures.runs.inside k2 i1 in
      let made = (c.in-Ok.ensures.runs.does k2).made i1 (c.take_rows.ensures.survives.limit ∙ limit) s (subst (KeepsOld s) (sym taken.1.0.now_is) keeps) in
      let is : c.deref.result.now ≡ c.in_ok-rows.rows.items = search rules in
      let puts = rw is at (c.in_err-put_rows.ensures.runs.does clean) in
      handed_on _ _ _ _ c.from_residual-in_err-put_rows.ensures.1 (held_back s0.now.schema _
      (puts (c.remake_tables.ensures.runs.survives.limit ∙ c.take_rows.ensures.survives.limit ∙ limit) i2 s (emptied s) keeps.well made.0
      (lacks_all s c.in_ok-rows.rows.items taken.0)));
  inside = first_of (search rules, grind (arith, common_steps));
  kept = first_of (search rules, grind (arith, common_steps));
  reason = first_of (search rules, grind (arith, common_steps));
  survives = first_of (search rules, grind (arith, common_steps));
}

pub returns-in-Ok-read_serials-clause-runs : goal.returns-in-Ok-read_serials-clause-runs
returns-in-Ok-read_serials-clause-runs g c = record {
  same_reference = first_of (search rules, grind (arith, common_steps));
  does = λ clean limit inside s keeps.
      let s0 = state g.S.Store c.args.tx.now.conn.now in
      let s1 = state g.S.Store c.take_rows.new.tx.conn.now in
      let s2 = state g.S.Store c.remake_tables.new.tx.conn.now in
      let s3 = state g.S.Store c.put_rows.new.tx.conn.now in
      let s4 = state g.S.Store c.read_serials.new.tx.conn.now in
      let k3 = clean_back s3 s4 _ c.read_serials.ensures.survives clean in
      let k2 = clean_back s2 s3 _ c.put_rows.ensures.runs.survives k3 in
      let k1 = clean_back s1 s2 _ c.remake_tables.ensures.runs.survives k2 in
      let taken = (c.in_ok-rows.ensures.does k1).takes s limit keeps in
      let i1 = c.in_ok-rows.ensures.inside k1 inside in
      let i2 = c.in-Ok.ensures.runs.inside k2 i1 in
      let made = (c.in-Ok.ensures.runs.does k2).made i1 (c.take_rows.ensures.survives.limit ∙ limit) s (subst (KeepsOld s) (sym taken.1.0.now_is) keeps) in
      let is : c.deref.result.now ≡ c.in_ok-rows.rows.items = search rules in
      let unlimited = c.remake_tables.ensures.runs.survives.limit ∙ c.take_rows.ensures.survives.limit ∙ limit in
      let puts = rw is at (c.in_ok-put_rows.ensures.runs.does k3) in
      let put = puts unlimited i2 s (emptied s) keeps.well made.0 (lacks_all s c.in_ok-rows.rows.items taken.0) in
      let kept : Keeps s s3.now = record { well = keeps.well; rows = put.0 } in
      let counted = (c.in-Ok-read_serials.ensures.does clean).finds s (c.put_rows.ensures.runs.survives.limit ∙ unlimited) kept in
      let same = ((c.in-Ok-read_serials.ensures.does clean).reports).1.0.now_is in
      let count : c.len.result ≡ length c.in-Ok-read_serials.serials.items = search rules in (
        count ∙ counted,
        subst (Keeps s) (sym same) kept,
        others_then s0.now s1.now s4.now (others_same s0.now s1.now taken.1.0.now_is) (others_then s1.now s2.now s4.now made.1
            (others_then s2.now s3.now s4.now (others_elsewhere s2.now s3.now put.1) (others_same s3.now s4.now same))),
      );
  inside = first_of (search rules, grind (arith, common_steps));
  kept = first_of (search rules, grind (arith, common_steps));
  reason = first_of (search rules, grind (arith, common_steps));
  survives = first_of (search rules, grind (arith, common_steps));
}

pub returns-clause-runs : goal.returns-clause-runs
returns-clause-runs g c = record {
  same_reference = first_of (search rules, grind (arith, common_steps));
  does = λ clean limit inside s keeps.
      let s1 = state g.S.Store c.take_rows.new.tx.conn.now in
      let s2 = state g.S.Store c.remake_tables.new.tx.conn.now in
      let s3 = state g.S.Store c.put_rows.new.tx.conn.now in
      let s4 = state g.S.Store c.read_serials.new.tx.conn.now in
      let k3 = clean_back s3 s4 _ c.read_serials.ensures.survives clean in
      let k2 = clean_back s2 s3 _ c.put_rows.ensures.runs.survives k3 in
      let k1 = clean_back s1 s2 _ c.remake_tables.ensures.runs.survives k2 in
      let taken = (c.in_ok-rows.ensures.does k1).takes s limit keeps in
      let i1 = c.in_ok-rows.ensures.inside k1 inside in
      let i2 = c.in-Ok.ensures.runs.inside k2 i1 in
      let made = (c.in-Ok.ensures.runs.does k2).made i1 (c.take_rows.ensures.survives.limit ∙ limit) s (subst (KeepsOld s) (sym taken.1.0.now_is) keeps) in
      let is : c.deref.result.now ≡ c.in_ok-rows.rows.items = search rules in
      let unlimited = c.remake_tables.ensures.runs.survives.limit ∙ c.take_rows.ensures.survives.limit ∙ limit in
      let puts = rw is at (c.in_ok-put_rows.ensures.runs.does k3) in
      let put = puts unlimited i2 s (emptied s) keeps.well made.0 (lacks_all s c.in_ok-rows.rows.items taken.0) in
      let kept : Keeps s s3.now = record { well = keeps.well; rows = put.0 } in
      let of = (c.in-Err-read_serials.ensures.does clean).finds s (c.put_rows.ensures.runs.survives.limit ∙ unlimited) kept in
      held_back (state g.S.Store c.args.tx.now.conn.now).now.schema _ (subst IsMemoryOrStore (sym (c.fault_of.ensures.store of)) of);
  inside = first_of (search rules, grind (arith, common_steps));
  kept = first_of (search rules, grind (arith, common_steps));
  reason = first_of (search rules, grind (arith, common_steps));
  survives = first_of (search rules, grind (arith, common_steps));
}

pub returns-in-Err-clause-runs : goal.returns-in-Err-clause-runs
returns-in-Err-clause-runs g c = record {
  same_reference = first_of (search rules, grind (arith, common_steps));
  does = λ clean limit inside s keeps.
      let s1 = state g.S.Store c.take_rows.new.tx.conn.now in
      let s2 = state g.S.Store c.remake_tables.new.tx.conn.now in
      let k1 = clean_back s1 s2 _ c.remake_tables.ensures.runs.survives clean in
      let taken = (c.in_ok-rows.ensures.does k1).takes s limit keeps in
      let i1 = c.in_ok-rows.ensures.inside k1 inside in
      subst (λ (d : Database). IsMigrationError d.schema c.in-Err.error) taken.1.0.now_is
      ((c.in-Err.ensures.runs.does clean).reported i1 (c.take_rows.ensures.survives.limit ∙ limit) s (subst (KeepsOld s) (sym taken.1.0.now_is) keeps));
  inside = first_of (search rules, grind (arith, common_steps));
  kept = first_of (search rules, grind (arith, common_steps));
  reason = first_of (search rules, grind (arith, common_steps));
  survives = first_of (search rules, grind (arith, common_steps));
}

pub returns-in-Ok-read_serials-clause-carried : goal.returns-in-Ok-read_serials-clause-carried
returns-in-Ok-read_serials-clause-carried g c clean inside =
    let s1 = state g.S.Store c.take_rows.new.tx.conn.now in
    let s2 = state g.S.Store c.remake_tables.new.tx.conn.now in
    let s3 = state g.S.Store c.put_rows.new.tx.conn.now in
    let s4 = state g.S.Store c.read_serials.new.tx.conn.now in
    let k3 = clean_back s3 s4 _ c.read_serials.ensures.survives clean in
    let k2 = clean_back s2 s3 _ c.put_rows.ensures.runs.survives k3 in
    let k1 = clean_back s1 s2 _ c.remake_tables.ensures.runs.survives k2 in
    let i1 = c.in_ok-rows.ensures.inside k1 inside in
    let i2 = c.in-Ok.ensures.runs.inside k2 i1 in
    let is : c.deref.result.now ≡ c.in_ok-rows.rows.items = search rules in
    let each = subst (λ rows. PutsEach g.S.Store rows c.remake_tables.new.tx.conn.now c.put_rows.new.tx.conn.now) is (c.in_ok-put_rows.ensures.ran k3 i2) in (
      c.in_ok-rows.rows.items,
      (c.in_ok-rows.ensures.does k1).shown,
      c.take_rows.new.tx.conn.now,
      (c.in_ok-rows.ensures.does k1).same,
      c.remake_tables.new.tx.conn.now,
      c.in-Ok.ensures.ran k2 i1,
      c.put_rows.new.tx.conn.now,
      each,
      ((c.in-Ok-read_serials.ensures.does clean).reports).1.0.now_is,
    )
