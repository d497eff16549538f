use Rattle.std.proofs.Common.{[], Ok, Err}
use Rattle.sqlite.specs.Held.{state}
use Rattle.streetmap_rows.specs.Statements.{select_collections}
use Rattle.streetmap_rows.proofs.ResultCases.{handed_on}
use Rattle.streetmap_reading.proofs.Folded.{folded_some}
use Rattle.streetmap_reading.proofs.ShownOutlines.{collections_at}
use Rattle.streetmap_reading.specs.declared.ordering.Passing.{Passing}
use Rattle.streetmap_rows.proofs.ReadsInTurn.{reads_by}
use Rattle.streetmap_reading.proofs.ordering.most_by_ids.Goals as goal

pub returns : goal.returns
returns g c =
    reads_by select_collections _ c.in_ok-few.ensures (λ s keeps. (collections_at _ s keeps).plain) (λ clean took s limit keeps.
    let old = state g.S.Store c.args.conn.now in
    let new = state g.S.Store c.fold_first.new.conn in
    let took = folded_some (λ (_ _ : Passing) _. Unit {0}) (λ _ _. Unit {0}) select_collections []
    old new c.fold_first.new.fold c.fold_first.new.fold _ (collections_at _ s keeps) limit (λ rows is. tt) (Ok c.in_ok-few.few)
    took tt in
    (tt, took.1))

pub returns-then-not-few : goal.returns-then-not-few
returns-then-not-few g c =
    reads_by select_collections _ c.in_ok-few.ensures (λ s keeps. (collections_at _ s keeps).plain) (λ clean took s limit keeps.
    let old = state g.S.Store c.args.conn.now in
    let new = state g.S.Store c.fold_first.new.conn in
    let took = folded_some (λ (_ _ : Passing) _. Unit {0}) (λ _ _. Unit {0}) select_collections []
    old new c.fold_first.new.fold c.fold_first.new.fold _ (collections_at _ s keeps) limit (λ rows is. tt) (Ok c.in_ok-few.few)
    took tt in
    (tt, took.1))

pub returns-in_err-few : goal.returns-in_err-few
returns-in_err-few g c =
    reads_by select_collections _ c.in_err-few.ensures (λ s keeps. (collections_at _ s keeps).plain) (λ clean took s limit keeps.
    let old = state g.S.Store c.args.conn.now in
    let new = state g.S.Store c.fold_first.new.conn in
    handed_on _ _ _ _ c.from_residual.ensures.1
    (folded_some (λ (_ _ : Passing) _. Unit {0}) (λ _ _. Unit {0}) select_collections []
    old new c.fold_first.new.fold c.fold_first.new.fold _ (collections_at _ s keeps) limit (λ rows is. tt) (Err c.in_err-few.field-0.0)
    took tt))
