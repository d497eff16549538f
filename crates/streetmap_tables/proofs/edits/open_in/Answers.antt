use Rattle.std.proofs.Common.{rules, ◌∙◌, arith, IsTrue}
use Rattle.std.specs.Option.{option_copied}
use Rattle.sqlite.specs.Held.{state}
use Rattle.sqlite.specs.State.{HasCleanDisk}
use Rattle.streetmap_rows.proofs.ResultCases.{handed_on}
use Rattle.streetmap_tables.proofs.CallsInTransaction.{keeps, keeps_then, keeps_rest, rest_then, still_represented}
use Rattle.streetmap_tables.proofs.Deciding.{may_open}
use Rattle.streetmap_rows.proofs.CallsInside.{runs_of, runs_ok, runs_err, runs_both}
use Rattle.streetmap_tables.proofs.edits.open_in.Goals as goal

pub returns-in_err-has_collection : goal.returns-in_err-has_collection
returns-in_err-has_collection g c =
    runs_err c.in_err-has_collection.ensures c.from_residual.ensures.1 (λ clean limit inside s represented.
    handed_on _ _ _ _ c.from_residual.ensures.1 (c.in_err-has_collection.ensures.does clean limit s represented))

pub returns : goal.returns
returns g c =
    runs_ok (runs_both c.in_ok-has_collection.ensures (runs_of c.in_ok-insert_collection.ensures)) (λ clean limit inside s represented.
    let a = state g.S.Store c.args.tx.now.conn.now in
    let b = state g.S.Store c.has_collection.new.tx.conn.now in
    let f = state g.S.Store c.insert_collection.new.tx.conn.now in
    let early : HasCleanDisk b = omega (arith, clean, c.insert_collection.ensures.survives.clean) in
    let first = c.in_ok-has_collection.ensures.does early limit s represented in
    let may = may_open s c.args.collection.now c.args.title.now (option_copied c.args.time) (search rules) c.utf8.collection c.utf8.title (search rules) in
    let within : IsTrue b.in_transaction = first.1.0.mode ∙ inside in
    let wrote = c.in_ok-insert_collection.ensures.does clean within (c.has_collection.ensures.survives.limit ∙ limit) s _
    (still_represented a b s first.1 represented) may.1 in (
      (_, may.0, wrote.0),
      c.in_ok-insert_collection.ensures.inside clean within,
      rest_then a b f (keeps_rest a b first.1) (c.in_ok-insert_collection.ensures.kept clean within, wrote.1),
    ))

pub returns-in_err-insert_collection : goal.returns-in_err-insert_collection
returns-in_err-insert_collection g c =
    runs_err (runs_both c.in_ok-has_collection.ensures (runs_of c.in_err-insert_collection.ensures)) c.from_residual-in_err-insert_collection.ensures.1
    (λ clean limit inside s represented.
    let a = state g.S.Store c.args.tx.now.conn.now in
    let b = state g.S.Store c.has_collection.new.tx.conn.now in
    let f = state g.S.Store c.insert_collection.new.tx.conn.now in
    let early : HasCleanDisk b = omega (arith, clean, c.insert_collection.ensures.survives.clean) in
    let first = c.in_ok-has_collection.ensures.does early limit s represented in
    let may = may_open s c.args.collection.now c.args.title.now (option_copied c.args.time) (search rules) c.utf8.collection c.utf8.title (search rules) in
    let within : IsTrue b.in_transaction = first.1.0.mode ∙ inside in
    handed_on _ _ _ _ c.from_residual-in_err-insert_collection.ensures.1 (
      c.in_err-insert_collection.ensures.does clean within (c.has_collection.ensures.survives.limit ∙ limit) s _ (still_represented a b s first.1 represented)
          may.1,
      keeps_then a b f (keeps a b first.1) (c.in_err-insert_collection.ensures.kept clean within),
    ))
