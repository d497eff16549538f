use Rattle.std.proofs.Common.{rules, ◌≡◌, ap, sym, subst, ◌∙◌, arith}
use Rattle.std.proofs.lemmas.Grind.{common_steps}
use Rattle.std.specs.FinMap.{get, insert}
use Rattle.sqlite.specs.Held.{state}
use Rattle.sqlite.specs.State.{HasCleanDisk}
use Rattle.streetmap_geojson.specs.FeatureValue.{FeatureValue}
use Rattle.streetmap_ledger.specs.State.{timed, with_feature, with_features}
use Rattle.streetmap_rows.specs.Representations.{StandsFor}
use Rattle.streetmap_rows.specs.Elsewhere.{IsSameElsewhere}
use Rattle.streetmap_rows.proofs.ResultCases.{handed_on}
use Rattle.streetmap_rows.specs.Stored.{IsStored}
use Rattle.streetmap_tables.proofs.CallsInTransaction.{still_represented}
use Rattle.streetmap_rows.specs.Calls.{RanInsert}
use Rattle.streetmap_rows.specs.Rows.{feature_text}
use Rattle.streetmap_tables.specs.Part.{IsMemoryOrStore}
use Rattle.streetmap_tables.proofs.PartOfState.{to_put, after, lacks_after, put_is, never_untimed}
use Rattle.streetmap_tables.proofs.Reasons.{reason_in, reason_in_later}
use Rattle.streetmap_tables.proofs.features.put_row.Goals as goal

pub returns-in_err-collection-clause-runs : goal.returns-in_err-collection-clause-runs
returns-in_err-collection-clause-runs g c = record {
  same_reference = first_of (search rules, grind (arith, common_steps));
  does = λ clean limit inside s t more well represented lacks.
      let it = to_put s t c.args.row.now more lacks well in
      let reported = c.in_err-collection.ensures.reads it.p it.f it.row_is (represented.readable.collections it.p.0 it.c it.there).id in
      handed_on _ _ _ _ c.from_residual.ensures.1 (subst IsMemoryOrStore (sym reported) tt);
  inside = first_of (search rules, grind (arith, common_steps));
  kept = first_of (search rules, grind (arith, common_steps));
  reason = first_of (search rules, grind (arith, common_steps));
  survives = first_of (search rules, grind (arith, common_steps));
}

pub returns-in_err-time-clause-runs : goal.returns-in_err-time-clause-runs
returns-in_err-time-clause-runs g c = record {
  same_reference = first_of (search rules, grind (arith, common_steps));
  does = λ clean limit inside s t more well represented lacks.
      let it = to_put s t c.args.row.now more lacks well in
      let named = c.as_str.ensures.value ∙ c.in_ok-collection.ensures.reads it.p it.f it.row_is (represented.readable.collections it.p.0 it.c it.there).id in
      handed_on _ _ _ _ c.from_residual-in_err-time.ensures.1 ((c.in_err-time.ensures.does clean).finds limit t it.c represented
      (ap (get t.collections) named ∙ it.there));
  inside = first_of (search rules, grind (arith, common_steps));
  kept = first_of (search rules, grind (arith, common_steps));
  reason = first_of (search rules, grind (arith, common_steps));
  survives = first_of (search rules, grind (arith, common_steps));
}

pub returns-in_err-feature-clause-runs : goal.returns-in_err-feature-clause-runs
returns-in_err-feature-clause-runs g c = record {
  same_reference = first_of (search rules, grind (arith, common_steps));
  does = λ clean limit inside s t more well represented lacks.
      let it = to_put s t c.args.row.now more lacks well in
      let named = c.as_str.ensures.value ∙ c.in_ok-collection.ensures.reads it.p it.f it.row_is (represented.readable.collections it.p.0 it.c it.there).id in
      let found = (c.in_ok-time.ensures.does clean).finds limit t it.c represented (ap (get t.collections) named ∙ it.there) in
      let stored = subst (λ p. IsStored p it.f) (sym (c.as_deref.ensures.value ∙ found.0)) (record { kept = it.placed.is; timed = it.placed.timed }) in
      handed_on _ _ _ _ c.from_residual-in_err-feature.ensures.1 (subst IsMemoryOrStore (sym
      (c.in_err-feature.ensures.reads it.p it.f it.row_is it.placed.named stored)) tt);
  inside = first_of (search rules, grind (arith, common_steps));
  kept = first_of (search rules, grind (arith, common_steps));
  reason = first_of (search rules, grind (arith, common_steps));
  survives = first_of (search rules, grind (arith, common_steps));
}

pub returns-in-Ok-None-clause-runs : goal.returns-in-Ok-None-clause-runs
returns-in-Ok-None-clause-runs g c = record {
  same_reference = first_of (search rules, grind (arith, common_steps));
  does = λ clean limit inside s t more well represented lacks.
      let a = state g.S.Store c.args.tx.now.conn.now in
      let b = state g.S.Store c.find_time.new.tx.conn.now in
      let new = state g.S.Store c.put_feature.new.tx.conn.now in
      let early : HasCleanDisk b = omega (arith, clean, c.put_feature.ensures.survives.clean) in
      let it = to_put s t c.args.row.now more lacks well in
      let name = c.in_ok-collection.ensures.reads it.p it.f it.row_is (represented.readable.collections it.p.0 it.c it.there).id in
      let found = (c.in_ok-time.ensures.does early).finds limit t it.c represented (ap (get t.collections) (c.as_str.ensures.value ∙ name) ∙ it.there) in
      let stored = subst (λ p. IsStored p it.f) (sym (c.as_deref.ensures.value ∙ found.0)) (record { kept = it.placed.is; timed = it.placed.timed }) in
      let same = c.in_ok-feature.ensures.reads it.p it.f it.row_is it.placed.named stored in
      let named = c.as_str-2.ensures.value ∙ name in
      let absent = ap (λ (x : FeatureValue). get it.c.features x.id) same ∙ ap (get it.c.features) it.placed.named ∙ it.absent in
      let put = (c.in-Ok-None.ensures.does clean).puts (c.find_time.ensures.survives.limit ∙ limit) (found.1.0.mode ∙ inside) t it.c
      (still_represented a b t found.1 represented) (ap (get t.collections) named ∙ it.there) (sym found.0 ∙ sym c.as_deref-2.ensures.value) absent in
      let was = rw c.in-Ok-None.field-0-is at put.0 in
      let feature : was.0 ≡ it.f = put_is it.c.time it.p.1 it.f was.0 it.placed (ap (λ (x : FeatureValue). timed it.c.time x) (sym same) ∙ was.1) in
      let id : was.0.id ≡ it.p.1 = ap (λ (x : FeatureValue). x.id) feature ∙ it.placed.named in
      let there : with_feature t c.as_str-2.result.now it.c was.0 ≡ after s t c.args.row.now more lacks it = λ i.
      with_features t (named i) it.c (insert it.c.features (id i) (feature i)) in (
        (after s t c.args.row.now more lacks it, subst (λ u. StandsFor u new.now) there was.2, lacks_after s t c.args.row.now more lacks it),
        subst (λ d. IsSameElsewhere d new.now) found.1.0.now_is put.2.1,
      );
  inside = first_of (search rules, grind (arith, common_steps));
  kept = first_of (search rules, grind (arith, common_steps));
  reason = first_of (search rules, grind (arith, common_steps));
  survives = first_of (search rules, grind (arith, common_steps));
}

pub returns-in-Ok-Some-clause-runs : goal.returns-in-Ok-Some-clause-runs
returns-in-Ok-Some-clause-runs g c = record {
  same_reference = first_of (search rules, grind (arith, common_steps));
  does = λ clean limit inside s t more well represented lacks.
      let a = state g.S.Store c.args.tx.now.conn.now in
      let b = state g.S.Store c.find_time.new.tx.conn.now in
      let new = state g.S.Store c.put_feature.new.tx.conn.now in
      let early : HasCleanDisk b = omega (arith, clean, c.put_feature.ensures.survives.clean) in
      let it = to_put s t c.args.row.now more lacks well in
      let name = c.in_ok-collection.ensures.reads it.p it.f it.row_is (represented.readable.collections it.p.0 it.c it.there).id in
      let found = (c.in_ok-time.ensures.does early).finds limit t it.c represented (ap (get t.collections) (c.as_str.ensures.value ∙ name) ∙ it.there) in
      let stored = subst (λ p. IsStored p it.f) (sym (c.as_deref.ensures.value ∙ found.0)) (record { kept = it.placed.is; timed = it.placed.timed }) in
      let same = c.in_ok-feature.ensures.reads it.p it.f it.row_is it.placed.named stored in
      let named = c.as_str-2.ensures.value ∙ name in
      let absent = ap (λ (x : FeatureValue). get it.c.features x.id) same ∙ ap (get it.c.features) it.placed.named ∙ it.absent in
      let put = (c.in-Ok-Some.ensures.does clean).puts (c.find_time.ensures.survives.limit ∙ limit) (found.1.0.mode ∙ inside) t it.c
      (still_represented a b t found.1 represented) (ap (get t.collections) named ∙ it.there) (sym found.0 ∙ sym c.as_deref-2.ensures.value) absent in
      let was = rw c.in-Ok-Some.field-0-is at put.0 in
      absurd (never_untimed it.c.time it.p.1 it.f _ it.placed (ap (λ (x : FeatureValue). timed it.c.time x) (sym same) ∙ was));
  inside = first_of (search rules, grind (arith, common_steps));
  kept = first_of (search rules, grind (arith, common_steps));
  reason = first_of (search rules, grind (arith, common_steps));
  survives = first_of (search rules, grind (arith, common_steps));
}

pub returns-clause-runs : goal.returns-clause-runs
returns-clause-runs g c = record {
  same_reference = first_of (search rules, grind (arith, common_steps));
  does = λ clean limit inside s t more well represented lacks.
      let a = state g.S.Store c.args.tx.now.conn.now in
      let b = state g.S.Store c.find_time.new.tx.conn.now in
      let early : HasCleanDisk b = omega (arith, clean, c.put_feature.ensures.survives.clean) in
      let it = to_put s t c.args.row.now more lacks well in
      let name = c.in_ok-collection.ensures.reads it.p it.f it.row_is (represented.readable.collections it.p.0 it.c it.there).id in
      let found = (c.in_ok-time.ensures.does early).finds limit t it.c represented (ap (get t.collections) (c.as_str.ensures.value ∙ name) ∙ it.there) in
      let stored = subst (λ p. IsStored p it.f) (sym (c.as_deref.ensures.value ∙ found.0)) (record { kept = it.placed.is; timed = it.placed.timed }) in
      let same = c.in_ok-feature.ensures.reads it.p it.f it.row_is it.placed.named stored in
      let named = c.as_str-2.ensures.value ∙ name in
      let absent = ap (λ (x : FeatureValue). get it.c.features x.id) same ∙ ap (get it.c.features) it.placed.named ∙ it.absent in
      let put = (c.in-Err.ensures.does clean).puts (c.find_time.ensures.survives.limit ∙ limit) (found.1.0.mode ∙ inside) t it.c
      (still_represented a b t found.1 represented) (ap (get t.collections) named ∙ it.there) (sym found.0 ∙ sym c.as_deref-2.ensures.value) absent in
      subst IsMemoryOrStore (sym (c.fault_of.ensures.store put.0)) put.0;
  inside = first_of (search rules, grind (arith, common_steps));
  kept = first_of (search rules, grind (arith, common_steps));
  reason = λ clean.
      let b = state g.S.Store c.find_time.new.tx.conn.now in
      let new = state g.S.Store c.put_feature.new.tx.conn.now in
      reason_in_later (state g.S.Store c.args.tx.now.conn.now) b new _ _ _ c.find_time.ensures.survives c.put_feature.ensures.survives clean
      (reason_in b new c.in-Err.error _ c.fault_of.ensures.only (c.in-Err.ensures.reason clean));
  survives = first_of (search rules, grind (arith, common_steps));
}

pub returns-in-Ok-None-clause-ran : goal.returns-in-Ok-None-clause-ran
returns-in-Ok-None-clause-ran g c clean inside =
    let b = state g.S.Store c.find_time.new.tx.conn.now in
    let new = state g.S.Store c.put_feature.new.tx.conn.now in
    let early : HasCleanDisk b = omega (arith, clean, c.put_feature.ensures.survives.clean) in
    let there = c.in_ok-time.ensures.inside early inside in
    let name = c.as_str-2.ensures.value ∙ c.in_ok-collection.ensures.named in
    let ran = (c.in-Ok-None.ensures.does clean).ran there c.in-Ok-None.field-0-is in (
      _,
      _,
      c.in_ok-feature.ensures.worded,
      (
        c.find_time.new.tx.conn.now,
        (c.in_ok-time.ensures.does early).same,
        subst (λ p. RanInsert p (feature_text c.in_ok-feature.feature) b new) (λ i. (name i, c.in_ok-feature.ensures.named i)) ran,
      ),
    )
