use Rattle.std.proofs.Common.{drop_of_length-le, ◌∙◌, ◌+◌, ◌∷◌, refl, sym, ap, subst, arith, map, drop, inl}
use Rattle.std.proofs.lemmas.List.{drop_more}
use Rattle.sqlite.specs.Held.{state}
use Rattle.sqlite.specs.State.{HasCleanDisk}
use Rattle.sqlite.proofs.StateLemmas.{survives_then}
use Rattle.streetmap_batch.specs.BatchView.{edit_value}
use Rattle.streetmap_ledger.specs.Batches.{edited}
use Rattle.streetmap_tables.specs.EditEffects.{Answered}
use Rattle.streetmap_rows.proofs.ResultCases.{handed_on}
use Rattle.streetmap_tables.proofs.EditEffects.{edited_more, edited_stops}
use Rattle.streetmap_tables.proofs.CallsInTransaction.{same_all, keeps_then, rest_then}
use Rattle.streetmap_rows.proofs.CallsInside.{runs_ok, runs_err, runs_both, so_far}
use Rattle.streetmap_tables.proofs.edits.edit_in_turn.Goals as goal

pub edits-init : goal.edits-init
edits-init g c = (
  refl,
  record { clean = omega arith; shield = λ x. x; counts = omega arith; limit = refl; closes = λ _ o. inl o; crash = λ _ db m. inl m },
  refl,
  λ clean limit inside s represented. (
    s,
    refl,
    represented,
    inside,
    (
      record { was_open = λ o. o; committed = λ _. refl },
      same_all (state g.S.Store c.args.tx.now.conn.now).now _ refl,
    ),
  ),
)

pub returns-in_err-why-clause-runs : goal.returns-in_err-why-clause-runs
returns-in_err-why-clause-runs g c =
    runs_err (runs_both (so_far c.edits.invariant.0 c.edits.invariant.1) c.in_err-why.ensures) c.from_residual.ensures.1 (λ clean limit inside s represented.
    let inv = c.edits.invariant in
    let early : HasCleanDisk (state g.S.Store c.edits.tx.conn.now) = omega (arith, clean, c.edit_in.ensures.survives.clean) in
    let r = inv.3 early limit inside s represented in
    let e = c.in_err-why.ensures.does clean (inv.1.limit ∙ limit) r.3 r.0 r.2 in
    handed_on _ _ _ _ c.from_residual.ensures.1 (
      e.0,
      keeps_then (state g.S.Store c.args.tx.now.conn.now) (state g.S.Store c.edits.tx.conn.now)
          (state g.S.Store c.edit_in.new.tx.conn.now) r.4.0 e.1,
    ))

pub returns-in-Some-clause-runs : goal.returns-in-Some-clause-runs
returns-in-Some-clause-runs g c =
    runs_ok (runs_both (so_far c.edits.invariant.0 c.edits.invariant.1) c.in_ok-why.ensures) (λ clean limit inside s represented.
    let inv = c.edits.invariant in
    let i = c.edits.edit-index in
    let edit = c.edit-item.result in
    let mid = state g.S.Store c.edits.tx.conn.now in
    let new = state g.S.Store c.edit_in.new.tx.conn.now in
    let early : HasCleanDisk mid = omega (arith, clean, c.edit_in.ensures.survives.clean) in
    let r = inv.3 early limit inside s represented in
    let e = c.in_ok-why.ensures.does clean (inv.1.limit ∙ limit) r.3 r.0 r.2 in
    let why = subst (Answered r.0 (edit_value edit) new) c.in-Some.is e.0 in (
      r.1 ∙ ap (λ es. edited c.edits.place r.0 (map edit_value es)) (drop_more c.args.edits.now i edit (omega arith)
          ∙ ap (λ x. x ∷ drop (i + 1) c.args.edits.now) (sym c.edit-item.is))
          ∙ edited_stops r.0 c.edits.place (edit_value edit) (map edit_value (drop (i + 1) c.args.edits.now)) _ why,
      rest_then (state g.S.Store c.args.tx.now.conn.now) mid new r.4 e.2,
    ))

pub edits-preserved : goal.edits-preserved
edits-preserved g c =
    let inv = c.edits.invariant in
    let i = c.edits.edit-index in
    let edit = c.edit-item.result in
    let old = state g.S.Store c.args.tx.now.conn.now in
    let mid = state g.S.Store c.edits.tx.conn.now in
    let new = state g.S.Store c.edit_in.new.tx.conn.now in (
      c.edit_in.ensures.same_reference ∙ inv.0,
      survives_then old mid new (λ _. ⊥) (λ _. ⊥) (λ _. ⊥) (λ _ _ h. h) (λ _ _ h. h) inv.1 c.edit_in.ensures.survives,
      omega (arith, inv.2),
      λ clean limit inside s represented.
          let early : HasCleanDisk mid = omega (arith, clean, c.edit_in.ensures.survives.clean) in
          let r = inv.3 early limit inside s represented in
          let e = c.in_ok-why.ensures.does clean (inv.1.limit ∙ limit) r.3 r.0 r.2 in
          let did = subst (Answered r.0 (edit_value edit) new) c.in_default.is e.0 in (
            did.0,
            r.1 ∙ ap (λ es. edited c.edits.place r.0 (map edit_value es)) (drop_more c.args.edits.now i edit (omega arith)
                ∙ ap (λ x. x ∷ drop (i + 1) c.args.edits.now) (sym c.edit-item.is))
                ∙ edited_more r.0 did.0 c.edits.place (edit_value edit) (map edit_value (drop (i + 1) c.args.edits.now)) did.1,
            did.2,
            e.1,
            rest_then old mid new r.4 e.2,
          ),
    )

pub returns-clause-runs : goal.returns-clause-runs
returns-clause-runs g c =
    runs_ok (so_far c.edits.invariant.0 c.edits.invariant.1) (λ clean limit inside s represented.
    let r = c.edits.invariant.3 clean limit inside s represented in
    ((r.0, r.1 ∙ ap (λ es. edited c.edits.place r.0 (map edit_value es)) (drop_of_length-le c.args.edits.now (omega arith)), r.2, r.3), r.4))
