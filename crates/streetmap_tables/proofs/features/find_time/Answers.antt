use Rattle.std.proofs.Common.{arith, rules, ◌≡◌, Some, ap, sym, subst, ◌∙◌, if◌then◌else◌}
use Rattle.std.proofs.lemmas.Grind.{common_steps}
use Rattle.std.specs.FinMap.{get}
use Rattle.streetmap_ledger.specs.State.{Collection}
use Rattle.streetmap_rows.specs.Failures.{is_memory}
use Rattle.streetmap_rows.specs.Views.{collection_view}
use Rattle.streetmap_rows.specs.declared.fault.ReadFault.TheVariants.{Memory, Unread}
use Rattle.streetmap_tables.proofs.RestsAfterRead.{the_row}
use Rattle.streetmap_tables.specs.Part.{IsMemoryOrStore}
use Rattle.streetmap_tables.proofs.features.find_time.Goals as goal

pub returns-in-Err : goal.returns-in-Err
returns-in-Err g c = record {
  same_reference = first_of (search rules, grind (arith, common_steps));
  does = λ clean. record {
    finds = λ limit t k represented there. let r = (c.in-Err.ensures.does clean).rows limit t represented in
        subst IsMemoryOrStore (sym (c.fault_of.ensures.store r.0)) r.0;
    same = first_of (search rules, grind (arith, common_steps));
  };
  inside = first_of (search rules, grind (arith, common_steps));
  kept = first_of (search rules, grind (arith, common_steps));
  reason = first_of (search rules, grind (arith, common_steps));
  survives = first_of (search rules, grind (arith, common_steps));
}

pub returns-in-Ok-time_in : goal.returns-in-Ok-time_in
returns-in-Ok-time_in g c = record {
  same_reference = first_of (search rules, grind (arith, common_steps));
  does = λ clean. record {
    finds = λ limit t k represented there.
        let r = (c.in-Ok.ensures.does clean).rows limit t represented in
        let found = the_row collection_view (get t.collections c.args.collection.now) c.deref.result.now c.in-Some.row.now (search rules)
        c.in-Some.ensures.value in
        let reported = c.in-Ok-time_in.ensures.reads c.args.collection.now found.0 found.2
        (represented.readable.collections c.args.collection.now found.0 found.1) in
        let both : Some found.0 ≡ Some k = sym found.1 ∙ there in
        let same : found.0 ≡ k = cc in
        (reported ∙ ap (λ (x : Collection). x.time) same, r.1);
    same = first_of (search rules, grind (arith, common_steps));
  };
  inside = first_of (search rules, grind (arith, common_steps));
  kept = first_of (search rules, grind (arith, common_steps));
  reason = first_of (search rules, grind (arith, common_steps));
  survives = first_of (search rules, grind (arith, common_steps));
}

pub returns : goal.returns
returns g c = record {
  same_reference = first_of (search rules, grind (arith, common_steps));
  does = λ clean. record {
    finds = λ limit t k represented there.
        let r = (c.in-Ok.ensures.does clean).rows limit t represented in
        let found = the_row collection_view (get t.collections c.args.collection.now) c.deref.result.now c.in-Some.row.now (search rules)
        c.in-Some.ensures.value in
        let reported = c.in-Err-time_in.ensures.reads c.args.collection.now found.0 found.2
        (represented.readable.collections c.args.collection.now found.0 found.1) in
        subst IsMemoryOrStore (sym (c.unread.ensures ∙ ap (λ e. if is_memory e then Memory else Unread) reported)) tt;
    same = first_of (search rules, grind (arith, common_steps));
  };
  inside = first_of (search rules, grind (arith, common_steps));
  kept = first_of (search rules, grind (arith, common_steps));
  reason = first_of (search rules, grind (arith, common_steps));
  survives = first_of (search rules, grind (arith, common_steps));
}
