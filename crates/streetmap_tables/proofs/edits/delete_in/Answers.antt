use Rattle.std.proofs.Common.{rules, ◌∙◌, arith, IsTrue}
use Rattle.sqlite.specs.Held.{state}
use Rattle.sqlite.specs.State.{HasCleanDisk}
use Rattle.streetmap_rows.proofs.ResultCases.{handed_on}
use Rattle.streetmap_tables.proofs.CallsInTransaction.{keeps, keeps_then, keeps_rest, rest_then, still_represented}
use Rattle.streetmap_tables.proofs.Deciding.{no_feature, may_delete}
use Rattle.streetmap_rows.proofs.CallsInside.{runs_of, runs_ok, runs_err, runs_both}
use Rattle.streetmap_tables.proofs.edits.delete_in.Goals as goal

pub returns-in_err-has_collection : goal.returns-in_err-has_collection
returns-in_err-has_collection g c =
    runs_err c.in_err-has_collection.ensures c.from_residual.ensures.1 (λ clean limit inside s represented.
    handed_on _ _ _ _ c.from_residual.ensures.1 (c.in_err-has_collection.ensures.does clean limit s represented))

pub returns-in_err-has_feature : goal.returns-in_err-has_feature
returns-in_err-has_feature g c =
    runs_err (runs_both c.in_ok-has_collection.ensures c.in_err-has_feature.ensures) c.from_residual-in_err-has_feature.ensures.1
    (λ clean limit inside s represented.
    let a = state g.S.Store c.args.tx.now.conn.now in
    let b = state g.S.Store c.has_collection.new.tx.conn.now in
    let e = state g.S.Store c.has_feature.new.tx.conn.now in
    let early : HasCleanDisk b = omega (arith, clean, c.has_feature.ensures.survives.clean) in
    let first = c.in_ok-has_collection.ensures.does early limit s represented in
    let r = c.in_err-has_feature.ensures.does clean (c.has_collection.ensures.survives.limit ∙ limit) s (still_represented a b s first.1 represented) in
    handed_on _ _ _ _ c.from_residual-in_err-has_feature.ensures.1 (r.0, keeps_then a b e (keeps a b first.1) r.1))

pub returns : goal.returns
returns g c =
    runs_ok (runs_both (runs_both c.in_ok-has_collection.ensures c.in_ok-has_feature.ensures) (runs_of c.in_ok-delete_feature.ensures))
    (λ clean limit inside s represented.
    let a = state g.S.Store c.args.tx.now.conn.now in
    let b = state g.S.Store c.has_collection.new.tx.conn.now in
    let e = state g.S.Store c.has_feature.new.tx.conn.now in
    let f = state g.S.Store c.delete_feature.new.tx.conn.now in
    let later : HasCleanDisk e = omega (arith, clean, c.delete_feature.ensures.survives.clean) in
    let early : HasCleanDisk b = omega (arith, later, c.has_feature.ensures.survives.clean) in
    let first = c.in_ok-has_collection.ensures.does early limit s represented in
    let mid = still_represented a b s first.1 represented in
    let second = c.in_ok-has_feature.ensures.does later (c.has_collection.ensures.survives.limit ∙ limit) s mid in
    let last = still_represented b e s second.1 mid in
    let may = may_delete s c.args.collection.now c.args.id.now (search rules) (search rules) in
    let within : IsTrue e.in_transaction = second.1.0.mode ∙ first.1.0.mode ∙ inside in
    let wrote = c.in_ok-delete_feature.ensures.does clean within (c.has_feature.ensures.survives.limit ∙ c.has_collection.ensures.survives.limit ∙ limit) s
    may.0 last may.2 in (
      (may.0, may.1, wrote.0),
      c.in_ok-delete_feature.ensures.inside clean within,
      rest_then a b f (keeps_rest a b first.1) (rest_then b e f (keeps_rest b e second.1) (c.in_ok-delete_feature.ensures.kept clean within, wrote.1)),
    ))

pub returns-in_err-delete_feature : goal.returns-in_err-delete_feature
returns-in_err-delete_feature g c =
    runs_err (runs_both (runs_both c.in_ok-has_collection.ensures c.in_ok-has_feature.ensures) (runs_of c.in_err-delete_feature.ensures))
    c.from_residual-in_err-delete_feature.ensures.1 (λ clean limit inside s represented.
    let a = state g.S.Store c.args.tx.now.conn.now in
    let b = state g.S.Store c.has_collection.new.tx.conn.now in
    let e = state g.S.Store c.has_feature.new.tx.conn.now in
    let f = state g.S.Store c.delete_feature.new.tx.conn.now in
    let later : HasCleanDisk e = omega (arith, clean, c.delete_feature.ensures.survives.clean) in
    let early : HasCleanDisk b = omega (arith, later, c.has_feature.ensures.survives.clean) in
    let first = c.in_ok-has_collection.ensures.does early limit s represented in
    let mid = still_represented a b s first.1 represented in
    let second = c.in_ok-has_feature.ensures.does later (c.has_collection.ensures.survives.limit ∙ limit) s mid in
    let last = still_represented b e s second.1 mid in
    let may = may_delete s c.args.collection.now c.args.id.now (search rules) (search rules) in
    let within : IsTrue e.in_transaction = second.1.0.mode ∙ first.1.0.mode ∙ inside in
    handed_on _ _ _ _ c.from_residual-in_err-delete_feature.ensures.1 (
      c.in_err-delete_feature.ensures.does clean within (c.has_feature.ensures.survives.limit ∙ c.has_collection.ensures.survives.limit ∙ limit) s may.0 last
          may.2,
      keeps_then a b f (keeps a b first.1) (keeps_then b e f (keeps b e second.1) (c.in_err-delete_feature.ensures.kept clean within)),
    ))

pub returns-then-not-branch-2 : goal.returns-then-not-branch-2
returns-then-not-branch-2 g c =
    runs_ok (runs_both c.in_ok-has_collection.ensures c.in_ok-has_feature.ensures) (λ clean limit inside s represented.
    let a = state g.S.Store c.args.tx.now.conn.now in
    let b = state g.S.Store c.has_collection.new.tx.conn.now in
    let e = state g.S.Store c.has_feature.new.tx.conn.now in
    let early : HasCleanDisk b = omega (arith, clean, c.has_feature.ensures.survives.clean) in
    let first = c.in_ok-has_collection.ensures.does early limit s represented in
    let mid = still_represented a b s first.1 represented in
    let second = c.in_ok-has_feature.ensures.does clean (c.has_collection.ensures.survives.limit ∙ limit) s mid in (
      no_feature s c.args.collection.now c.args.id.now (search rules) (search rules),
      second.1.0.mode ∙ first.1.0.mode ∙ inside,
      rest_then a b e (keeps_rest a b first.1) (keeps_rest b e second.1),
    ))
