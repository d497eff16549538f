use Rattle.std.proofs.Common.{◌≡◌, ◌<◌, ℕ, ◌+◌, List, ◌∷◌, Ok, length, drop, get_or, sym, subst, ap, ◌∙◌, arith}
use Rattle.std.proofs.lemmas.List.{drop_more, drop_all}
use Rattle.streetmap_batch.specs.BatchView.{edit_value, edit_values}
use Rattle.streetmap_batch.specs.declared.edit.Edit.{Edit}
use Rattle.streetmap_ledger.specs.Batches.{edited}
use Rattle.streetmap_index.specs.Index.{IsIndexOf}
use Rattle.streetmap_outlines.proofs.Results.{on_ok_not_err}
use Rattle.streetmap_index.proofs.Replies.{first_done, none_done}
use Rattle.streetmap_index.proofs.index.Index.follow.Goals as goal

-- the edit that comes next
turn : (es : List Edit) (i : ℕ) (e : Edit) → i < length es → e ≡ get_or es i e → drop i es ≡ e ∷ drop (i + 1) es
turn es i e within is = drop_more es i e within ∙ ap (λ (x : Edit). x ∷ drop (i + 1) es) (sym is)

pub loop-edit-init : goal.loop-edit-init
loop-edit-init c = λ s t place done index. (s, place, done, index)

pub loop-edit-preserved : goal.loop-edit-preserved
loop-edit-preserved c = λ s t place done index.
    let es = c.args.edits.now in
    let i = c.loop-edit.edit-index in
    let e = c.edit-item.result in
    let so = c.loop-edit.invariant s t place done index in
    let next = first_done so.1 so.0 t (edit_value e) (edit_values (drop (i + 1) es)) (subst (λ (l : List Edit). edited so.1 so.0 (edit_values l) ≡ Ok t)
    (turn es i e (omega arith) c.edit-item.is) so.2) in (
      next.0,
      so.1 + 1,
      next.2,
      on_ok_not_err c.follow_edit.result (sym c.is_err.ensures.value ∙ c.if-is_err.false) (c.follow_edit.ensures so.0 next.0 next.1 so.3),
    )

pub returns-then-is_err : goal.returns-then-is_err
returns-then-is_err c = λ s t place done index. c.give_up.ensures.index t

pub returns : goal.returns
returns c = λ s t place done index.
    let es = c.args.edits.now in
    let so = c.loop-edit.invariant s t place done index in
    subst (IsIndexOf c.loop-edit.self) (none_done so.1 so.0 t (subst (λ (l : List Edit). edited so.1 so.0 (edit_values l) ≡ Ok t)
    (drop_all c.loop-edit.edit-index es (omega arith)) so.2)) so.3
