use Rattle.std.proofs.Common.{◌≡◌, ◌∙◌, ◌+◌, ◌≤◌, refl, ap, subst, arith, map, inl, length}
use Rattle.std.proofs.lemmas.List.{map-append, length-map}
use Rattle.sqlite.specs.Held.{state}
use Rattle.sqlite.specs.State.{HasCleanDisk}
use Rattle.sqlite.proofs.StateLemmas.{survives_then}
use Rattle.streetmap_batch.specs.BatchView.{edit_value}
use Rattle.streetmap_ledger.specs.Batches.{edited}
use Rattle.streetmap_tables.specs.EditEffects.{AnsweredAll}
use Rattle.streetmap_rows.proofs.ResultCases.{handed_on}
use Rattle.streetmap_tables.proofs.EditEffects.{edited_parts, edited_refused, none_left}
use Rattle.streetmap_tables.proofs.CallsInTransaction.{same_all, keeps_then, rest_then}
use Rattle.streetmap_tables.proofs.KnownCollections.{still_known}
use Rattle.streetmap_rows.proofs.CallsInside.{runs_ok, runs_err, runs_both, so_far}
use Rattle.streetmap_tables.proofs.edits.edit_each.Goals as goal

pub runs-init : goal.runs-init
runs-init g c = (
  refl,
  record { clean = omega arith; shield = λ x. x; counts = omega arith; limit = refl; closes = λ _ o. inl o; crash = λ _ db m. inl m },
  omega arith,
  λ clean limit inside s represented. (
    s,
    refl,
    represented,
    inside,
    (
      record { was_open = λ o. o; committed = λ _. refl },
      same_all (state g.S.Store c.args.tx.now.conn.now).now _ refl,
    ),
    tt,
  ),
)

pub returns-in_err-place : goal.returns-in_err-place
returns-in_err-place g c =
    runs_err (runs_both (so_far c.runs.invariant.0 c.runs.invariant.1) c.in_err-place.ensures.runs) c.from_residual.ensures.1
    (λ clean limit inside s represented.
    let inv = c.runs.invariant in
    let early : HasCleanDisk (state g.S.Store c.runs.tx.conn.now) = omega (arith, clean, c.edit_run.ensures.runs.survives.clean) in
    let r = inv.3 early limit inside s represented in
    let e = (c.in_err-place.ensures.runs.does clean).edits (inv.1.limit ∙ limit) r.3 r.0 r.2 r.5 in
    handed_on _ _ _ _ c.from_residual.ensures.1 (
      e.0,
      keeps_then (state g.S.Store c.args.tx.now.conn.now) (state g.S.Store c.runs.tx.conn.now)
          (state g.S.Store c.edit_run.new.tx.conn.now) r.4.0 e.1,
    ))

pub overflow_add-result : goal.overflow_add-result
overflow_add-result g c =
    let placed : c.in-Some.place ≤ length c.split_at.result.0.now = rw c.in-Some.is at c.in_ok-place.ensures.placed in
    omega (arith, placed, c.runs.invariant.2, c.split_at.ensures.back_len, c.split_at.ensures.front_len, c.runs.auto.done-fits)

pub returns-in-Some : goal.returns-in-Some
returns-in-Some g c =
    runs_ok (runs_both (so_far c.runs.invariant.0 c.runs.invariant.1) c.in_ok-place.ensures.runs) (λ clean limit inside s represented.
    let inv = c.runs.invariant in
    let run = c.split_at.result.0.now in
    let more = c.split_at.result.1.now in
    let mid = state g.S.Store c.runs.tx.conn.now in
    let new = state g.S.Store c.edit_run.new.tx.conn.now in
    let early : HasCleanDisk mid = omega (arith, clean, c.edit_run.ensures.runs.survives.clean) in
    let r = inv.3 early limit inside s represented in
    let e = (c.in_ok-place.ensures.runs.does clean).edits (inv.1.limit ∙ limit) r.3 r.0 r.2 r.5 in
    let stopped = subst (AnsweredAll r.0 (map edit_value run) new) c.in-Some.is e.0 in (
      r.1 ∙ ap (λ es. edited (c.runs.done + 1) r.0 es) (ap (map edit_value) c.split_at.ensures.by_index.0 ∙ map-append edit_value run more)
          ∙ edited_refused (map edit_value run) (map edit_value more) c.runs.done 1 c.in-Some.place r.0 c.in-Some.why stopped,
      rest_then (state g.S.Store c.args.tx.now.conn.now) mid new r.4 e.1,
    ))

pub runs-preserved : goal.runs-preserved
runs-preserved g c =
    let inv = c.runs.invariant in
    let run = c.split_at.result.0.now in
    let more = c.split_at.result.1.now in
    let old = state g.S.Store c.args.tx.now.conn.now in
    let mid = state g.S.Store c.runs.tx.conn.now in
    let new = state g.S.Store c.edit_run.new.tx.conn.now in (
      c.edit_run.ensures.runs.same_reference ∙ inv.0,
      survives_then old mid new (λ _. ⊥) (λ _. ⊥) (λ _. ⊥) (λ _ _ h. h) (λ _ _ h. h) inv.1 c.edit_run.ensures.runs.survives,
      omega (arith, inv.2, c.split_at.ensures.front_len, c.split_at.ensures.back_len),
      λ clean limit inside s represented.
          let early : HasCleanDisk mid = omega (arith, clean, c.edit_run.ensures.runs.survives.clean) in
          let r = inv.3 early limit inside s represented in
          let e = (c.in_ok-place.ensures.runs.does clean).edits (inv.1.limit ∙ limit) r.3 r.0 r.2 r.5 in
          let did = subst (AnsweredAll r.0 (map edit_value run) new) c.in_default.is e.0 in
          let count : length (map edit_value run) ≡ length run = length-map run edit_value in (
            did.0,
            r.1 ∙ ap (λ es. edited (c.runs.done + 1) r.0 es) (ap (map edit_value) c.split_at.ensures.by_index.0 ∙ map-append edit_value run more)
                ∙ edited_parts (map edit_value run) (map edit_value more) (c.runs.done + 1) 1 r.0 did.0 did.1
                ∙ ap (λ n. edited n did.0 (map edit_value more)) (omega (arith, count)),
            did.2,
            did.3,
            rest_then old mid new r.4 e.1,
            still_known c.edit_run.new.known (map edit_value run) 1 r.0 did.0 did.1 ((c.in_ok-place.ensures.runs.does clean).knows (inv.1.limit ∙ limit) r.3 r.0
                r.2 r.5),
          ),
    )

pub returns : goal.returns
returns g c =
    runs_ok (so_far c.runs.invariant.0 c.runs.invariant.1) (λ clean limit inside s represented.
    let r = c.runs.invariant.3 clean limit inside s represented in
    let none = none_left c.runs.rest.now c.is_empty.result c.is_empty.ensures c.runs-test.false in
    ((r.0, r.1 ∙ ap (λ es. edited (c.runs.done + 1) r.0 (map edit_value es)) none, r.2, r.3), r.4))
