use Rattle.std.proofs.Common.{arith, rules, ◌≡◌, inl, inr, Ok, IsTrue, sym, ap, subst, ◌∙◌}
use Rattle.std.proofs.lemmas.Grind.{common_steps}
use Rattle.sqlite.specs.Values.{bound}
use Rattle.sqlite.specs.Held.{state}
use Rattle.sqlite.specs.State.{ExecutesInside}
use Rattle.streetmap_rows.specs.Failures.{IsOfStore}
use Rattle.streetmap_rows.specs.Statements.{insert_features}
use Rattle.streetmap_rows.proofs.ErrorReasons.{run_inside, of_store_or_same}
use Rattle.streetmap_rows.proofs.FeaturesRun.{are_given, put_represented}
use Rattle.streetmap_rows.proofs.BoundParameters.{rows_bound, rows_fine}
use Rattle.streetmap_rows.proofs.feature_rows.insert_features.Goals as goal

pub returns-in-Ok-ran : goal.returns-in-Ok-ran
returns-in-Ok-ran g c = record {
  same_reference = first_of (search rules, grind (arith, common_steps));
  does = λ clean inside es are limit s d represented there.
      let old = state g.S.Store c.args.tx.now.conn.now in
      let new = state g.S.Store c.execute-ran.new.self.conn.now in
      let name = c.args.collection.now in
      let fine = rows_fine es c.args.rows.now are in
      let given = rows_bound name es c.args.rows.now are in
      let ran = subst (λ row. ExecutesInside 0 insert_features row old new (Ok c.in-Ok-ran.field-0))
      (ap bound c.as_slice.ensures.value ∙ c.in-Ok.ensures ∙ given) (c.in-Ok-ran.ensures.runs clean inside) in
      put_represented old new s represented limit name es (are_given name es (fine.1 ∙ c.requires)) d there fine.0 _ ran.0;
  inside = first_of (search rules, grind (arith, common_steps));
  kept = first_of (search rules, grind (arith, common_steps));
  reason = first_of (search rules, grind (arith, common_steps));
  survives = first_of (search rules, grind (arith, common_steps));
}

pub returns-in-Err : goal.returns-in-Err
returns-in-Err g c = record {
  same_reference = first_of (search rules, grind (arith, common_steps));
  does = first_of (search rules, grind (arith, common_steps));
  inside = first_of (search rules, grind (arith, common_steps));
  kept = first_of (search rules, grind (arith, common_steps));
  reason = λ clean. run_inside (state g.S.Store c.args.tx.now.conn.now) (state g.S.Store c.execute-ran.new.self.conn.now) _ _ _ c.in-Err.ensures.ended
      (c.in-Err.ensures.runs clean);
  survives = first_of (search rules, grind (arith, common_steps));
}

pub returns : goal.returns
returns g c = record {
  same_reference = first_of (search rules, grind (arith, common_steps));
  does = λ clean inside es are limit s d represented there.
      elim (of_store_or_same (state g.S.Store c.args.tx.now.conn.now) (state g.S.Store c.execute-ran.new.self.conn.now) 0 _ _ _
      (c.in-Err-2.ensures.runs clean inside)) [
        | inl of_store ↦ absurd (
            let same : c.in-Err.error ≡ c.in-Err-2.field-0 = let is = sym c.in-Err.is ∙ c.in-Err-2.is in cc in
            let reported : IsTrue c.is_of_store.result = c.is_of_store.ensures.1 (subst IsOfStore (sym same) of_store) in
            let clash = rw c.if-is_of_store.false at reported in cc)
        | inr same ↦ same
      ];
  inside = λ clean inside.
      elim (of_store_or_same (state g.S.Store c.args.tx.now.conn.now) (state g.S.Store c.execute-ran.new.self.conn.now) 0 _ _ _
      (c.in-Err-2.ensures.runs clean inside)) [
        | inl of_store ↦ absurd (
            let same : c.in-Err.error ≡ c.in-Err-2.field-0 = let is = sym c.in-Err.is ∙ c.in-Err-2.is in cc in
            let reported : IsTrue c.is_of_store.result = c.is_of_store.ensures.1 (subst IsOfStore (sym same) of_store) in
            let clash = rw c.if-is_of_store.false at reported in cc)
        | inr same ↦ same.0.mode ∙ inside
      ];
  kept = first_of (search rules, grind (arith, common_steps));
  reason = first_of (search rules, grind (arith, common_steps));
  survives = first_of (search rules, grind (arith, common_steps));
}
