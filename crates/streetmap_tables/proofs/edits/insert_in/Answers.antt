use Rattle.std.proofs.Common.{rules, true, false, ◌≡◌, ◌∙◌, Some, None, sym, ap, arith, IsTrue, option_map, string_bytes, is_some}
use Rattle.std.specs.FinMap.{get}
use Rattle.sqlite.specs.Held.{state}
use Rattle.sqlite.specs.State.{HasCleanDisk}
use Rattle.streetmap_batch.specs.BatchValue as edit
use Rattle.streetmap_ledger.specs.State.{Collection}
use Rattle.streetmap_rows.specs.Rows.{feature_at}
use Rattle.streetmap_tables.specs.EditEffects.{Answered}
use Rattle.streetmap_tables.specs.StoredFeatures.{WasPut}
use Rattle.streetmap_rows.proofs.ResultCases.{handed_on}
use Rattle.streetmap_tables.proofs.CallsInTransaction.{keeps, keeps_then, keeps_rest, rest_then, still_represented, answered_on}
use Rattle.streetmap_tables.proofs.Deciding.{is_there, not_there, no_insert, free_id, is_taken, was_inserted}
use Rattle.streetmap_rows.proofs.CallsInside.{runs_of, runs_so, runs_ok, runs_err, runs_both}
use Rattle.streetmap_tables.proofs.edits.insert_in.Goals as goal

pub returns-in_err-property : goal.returns-in_err-property
returns-in_err-property g c =
    runs_err c.in_err-property.ensures c.from_residual.ensures.1 (λ clean limit inside s represented.
    handed_on _ _ _ _ c.from_residual.ensures.1 (c.in_err-property.ensures.does clean limit s represented))

pub returns-in_default : goal.returns-in_default
returns-in_default g c =
    runs_ok c.in_ok-property.ensures (λ clean limit inside s represented.
    let a = state g.S.Store c.args.tx.now.conn.now in
    let b = state g.S.Store c.time_property.new.tx.conn.now in
    let first = c.in_ok-property.ensures.does clean limit s represented in
    let reported : None ≡ option_map (λ (x : Collection). x.time) (get s.collections c.args.collection.now) =
    ap (option_map (option_map string_bytes)) (sym c.in_default.is) ∙ first.0 in (
      no_insert s c.args.collection.now c.args.feature.now (not_there (get s.collections c.args.collection.now) reported),
      first.1.0.mode ∙ inside,
      keeps_rest a b first.1,
    ))

pub returns-in_err-has_feature : goal.returns-in_err-has_feature
returns-in_err-has_feature g c =
    runs_err (runs_both c.in_ok-property.ensures c.in_err-has_feature.ensures) c.from_residual-in_err-has_feature.ensures.1 (λ clean limit inside s represented.
    let a = state g.S.Store c.args.tx.now.conn.now in
    let b = state g.S.Store c.time_property.new.tx.conn.now in
    let e = state g.S.Store c.has_feature.new.tx.conn.now in
    let early : HasCleanDisk b = omega (arith, clean, c.has_feature.ensures.survives.clean) in
    let first = c.in_ok-property.ensures.does early limit s represented in
    let r = c.in_err-has_feature.ensures.does clean (c.time_property.ensures.survives.limit ∙ limit) s (still_represented a b s first.1 represented) in
    handed_on _ _ _ _ c.from_residual-in_err-has_feature.ensures.1 (r.0, keeps_then a b e (keeps a b first.1) r.1))

pub returns-then-branch : goal.returns-then-branch
returns-then-branch g c =
    runs_ok (runs_both c.in_ok-property.ensures c.in_ok-has_feature.ensures) (λ clean limit inside s represented.
    let a = state g.S.Store c.args.tx.now.conn.now in
    let b = state g.S.Store c.time_property.new.tx.conn.now in
    let e = state g.S.Store c.has_feature.new.tx.conn.now in
    let early : HasCleanDisk b = omega (arith, clean, c.has_feature.ensures.survives.clean) in
    let first = c.in_ok-property.ensures.does early limit s represented in
    let reported : Some (option_map string_bytes c.in-Some.property) ≡ option_map (λ (x : Collection). x.time) (get s.collections c.args.collection.now) =
    ap (option_map (option_map string_bytes)) (sym c.in-Some.is) ∙ first.0 in
    let col = is_there (get s.collections c.args.collection.now) (option_map string_bytes c.in-Some.property) reported in
    let mid = still_represented a b s first.1 represented in
    let second = c.in_ok-has_feature.ensures.does clean (c.time_property.ensures.survives.limit ∙ limit) s mid in
    let seen : true ≡ is_some (feature_at s (c.args.collection.now, c.id.result.now)) = search rules in
    let held = seen ∙ ap (λ id. is_some (feature_at s (c.args.collection.now, id))) c.id.ensures in (
      is_taken s c.args.collection.now c.args.feature.now col.0 col.1 held,
      second.1.0.mode ∙ first.1.0.mode ∙ inside,
      rest_then a b e (keeps_rest a b first.1) (keeps_rest b e second.1),
    ))

pub returns : goal.returns
returns g c =
    runs_so (runs_both (runs_both c.in_ok-property.ensures c.in_ok-has_feature.ensures) (runs_of c.put_feature.ensures)) (λ clean limit inside s represented.
    let a = state g.S.Store c.args.tx.now.conn.now in
    let b = state g.S.Store c.time_property.new.tx.conn.now in
    let e = state g.S.Store c.has_feature.new.tx.conn.now in
    let f = state g.S.Store c.put_feature.new.tx.conn.now in
    let later : HasCleanDisk e = omega (arith, clean, c.put_feature.ensures.survives.clean) in
    let early : HasCleanDisk b = omega (arith, later, c.has_feature.ensures.survives.clean) in
    let first = c.in_ok-property.ensures.does early limit s represented in
    let reported : Some (option_map string_bytes c.in-Some.property) ≡ option_map (λ (x : Collection). x.time) (get s.collections c.args.collection.now) =
    ap (option_map (option_map string_bytes)) (sym c.in-Some.is) ∙ first.0 in
    let col = is_there (get s.collections c.args.collection.now) (option_map string_bytes c.in-Some.property) reported in
    let mid = still_represented a b s first.1 represented in
    let second = c.in_ok-has_feature.ensures.does later (c.time_property.ensures.survives.limit ∙ limit) s mid in
    let seen : false ≡ is_some (feature_at s (c.args.collection.now, c.id.result.now)) = search rules in
    let held = seen ∙ ap (λ id. is_some (feature_at s (c.args.collection.now, id))) c.id.ensures in
    let none = free_id s c.args.collection.now c.args.feature.now col.0 col.1 held in
    let within : IsTrue e.in_transaction = second.1.0.mode ∙ first.1.0.mode ∙ inside in
    let put = (c.put_feature.ensures.does clean).puts (c.has_feature.ensures.survives.limit ∙ c.time_property.ensures.survives.limit ∙ limit) within s col.0
    (still_represented b e s second.1 mid) col.1 (col.2 ∙ sym c.as_deref.ensures.value) none in
    answered_on a e f (WasPut s c.args.collection.now col.0 c.args.feature.now f) (Answered s (edit.insert c.args.collection.now c.args.feature.now) f)
    c.put_feature.result
    (was_inserted s c.args.collection.now c.args.feature.now col.0 col.1 f none) (rest_then a b e (keeps_rest a b first.1) (keeps_rest b e second.1)) put)
