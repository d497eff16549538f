use Rattle.std.proofs.Common.{arith, rules, Some, ap, refl}
use Rattle.std.proofs.lemmas.Grind.{common_steps}
use Rattle.std.specs.FinMap.{get}
use Rattle.sqlite.specs.Held.{state}
use Rattle.streetmap_rows.specs.Failures.{is_of_store}
use Rattle.streetmap_rows.specs.Views.{collection_view}
use Rattle.streetmap_rows.proofs.ResultCases.{handed_on}
use Rattle.streetmap_tables.proofs.CallsInTransaction.{keeps}
use Rattle.streetmap_tables.proofs.RestsAfterRead.{the_row, no_row}
use Rattle.streetmap_rows.proofs.CallsInside.{runs_of, runs_ok, runs_err}
use Rattle.streetmap_tables.proofs.times.time_property.Goals as goal

pub returns-in_err-rows : goal.returns-in_err-rows
returns-in_err-rows g c =
    runs_err (runs_of c.in_err-rows.ensures) c.from_residual.ensures.1 (λ clean limit s represented.
    handed_on _ _ _ _ c.from_residual.ensures.1 ((c.in_err-rows.ensures.does clean).rows limit s represented))

pub returns : goal.returns
returns g c =
    runs_ok (runs_of c.in_ok-rows.ensures) (λ clean limit s represented.
    let r = (c.in_ok-rows.ensures.does clean).rows limit s represented in
    let k = the_row collection_view (get s.collections c.args.collection.now) c.deref.result.now c.in-Some.row.now (search rules) c.in-Some.ensures.value in
    let reported = c.in_ok-time.ensures.reads c.args.collection.now k.0 k.2 (represented.readable.collections c.args.collection.now k.0 k.1) in
    (rw k.1 (ap (λ x. Some x) reported), r.1))

pub returns-in_err-time : goal.returns-in_err-time
returns-in_err-time g c = record {
  same_reference = first_of (search rules, grind (arith, common_steps));
  does = λ clean limit s represented.
      let r = (c.in_ok-rows.ensures.does clean).rows limit s represented in
      let k = the_row collection_view (get s.collections c.args.collection.now) c.deref.result.now c.in-Some.row.now (search rules) c.in-Some.ensures.value in
      let reported = c.in_err-time.ensures.reads c.args.collection.now k.0 k.2 (represented.readable.collections c.args.collection.now k.0 k.1) in
      handed_on _ _ _ _ c.from_residual-in_err-time.ensures.1 (
        ap is_of_store reported,
        keeps (state g.S.Store c.args.tx.now.conn.now)
            (state g.S.Store c.collection_rows.new.tx.conn.now) r.1,
      );
  reason = first_of (search rules, grind (arith, common_steps));
  survives = first_of (search rules, grind (arith, common_steps));
}

pub returns-in_default : goal.returns-in_default
returns-in_default g c =
    runs_ok (runs_of c.in_ok-rows.ensures) (λ clean limit s represented.
    let r = (c.in_ok-rows.ensures.does clean).rows limit s represented in
    let none = no_row collection_view (get s.collections c.args.collection.now) c.deref.result.now (search rules) c.in_default.ensures.value in
    (rw none refl, r.1))
