use Rattle.std.proofs.Common.{arith, rules, ◌≡◌, ◌∙◌, Some, option_map, string_bytes, refl, sym, ap}
use Rattle.std.proofs.lemmas.Grind.{common_steps}
use Rattle.std.specs.FinMap.{get}
use Rattle.sqlite.specs.Held.{state}
use Rattle.streetmap_ledger.specs.State.{Collection}
use Rattle.streetmap_rows.proofs.ResultCases.{handed_on}
use Rattle.streetmap_tables.proofs.CallsInTransaction.{keeps}
use Rattle.streetmap_tables.proofs.Deciding.{is_there}
use Rattle.streetmap_rows.proofs.CallsInside.{runs_ok, runs_err}
use Rattle.streetmap_tables.proofs.insertions.find_collection.Goals as goal

pub returns-in_err-property : goal.returns-in_err-property
returns-in_err-property g c =
    runs_err c.in_err-property.ensures c.from_residual.ensures.1 (λ clean limit s represented.
    handed_on _ _ _ _ c.from_residual.ensures.1 (c.in_err-property.ensures.does clean limit s represented))

pub returns-in_default : goal.returns-in_default
returns-in_default g c =
    runs_ok c.in_ok-property.ensures (λ clean limit s represented. (tt, tt, (c.in_ok-property.ensures.does clean limit s represented).1))

pub returns-in_default-from_str : goal.returns-in_default-from_str
returns-in_default-from_str g c = record {
  same_reference = first_of (search rules, grind (arith, common_steps));
  does = λ clean limit s represented. (
    refl,
    keeps (state g.S.Store c.args.tx.now.conn.now) (state g.S.Store c.time_property.new.tx.conn.now)
        (c.in_ok-property.ensures.does clean limit s represented).1,
  );
  reason = first_of (search rules, grind (arith, common_steps));
  survives = first_of (search rules, grind (arith, common_steps));
}

pub returns : goal.returns
returns g c =
    runs_ok c.in_ok-property.ensures (λ clean limit s represented.
    let first = c.in_ok-property.ensures.does clean limit s represented in
    let property = option_map string_bytes c.in-Some.property in
    let reported : Some property ≡ option_map (λ (x : Collection). x.time) (get s.collections c.args.collection.now) =
    ap (option_map (option_map string_bytes)) (sym c.in-Some.is) ∙ first.0 in
    let it = is_there (get s.collections c.args.collection.now) property reported in
    (c.in-Ok.ensures.ok, (it.0, ap (get s.collections) c.in-Ok.ensures.ok ∙ it.1, it.2), first.1))
