use Rattle.std.proofs.Common.{◌∙◌, sym, ap, subst, option_map}
use Rattle.std.specs.FinMap.{get}
use Rattle.sqlite.specs.Held.{state}
use Rattle.streetmap_rows.specs.Stored.{IsStored}
use Rattle.streetmap_rows.specs.Views.{collection_view}
use Rattle.streetmap_rows.specs.TableReads.{Stopped}
use Rattle.streetmap_rows.proofs.ReadsInTurn.{reads_on}
use Rattle.streetmap_rows.proofs.ResultCases.{handed_on}
use Rattle.streetmap_reading.proofs.FeatureStatement.{some_cell, text_first, stored_at, read_on, holder}
use Rattle.streetmap_reading.proofs.PageStatements.{there_is}
use Rattle.streetmap_reading.proofs.feature.timed_feature.Goals as goal

pub returns-in_err-head : goal.returns-in_err-head
returns-in_err-head g c =
    reads_on c.in_err-head.ensures (λ clean shows s id f limit live keeps there is.
    handed_on _ _ _ _ c.from_residual.ensures.1 (shows s limit keeps))

pub returns-in_default : goal.returns-in_default
returns-in_default g c =
    reads_on c.in_ok-head.ensures (λ clean shows s id f limit live keeps there is.
    let it = holder (get s.collections c.args.collection.now) id f there in
    absurd (let none = sym c.in_default.is ∙ (shows s limit keeps).0 ∙ ap (option_map collection_view) it.1 in cc))

pub returns-in_err-time : goal.returns-in_err-time
returns-in_err-time g c =
    reads_on c.in_ok-head.ensures (λ clean shows s id f limit live keeps there is.
    let found = shows s limit keeps in
    let it = there_is (get s.collections c.args.collection.now) c.in-Some.head (sym c.in-Some.is ∙ found.0) in
    let known = c.in_err-time.ensures c.args.collection.now it.0 it.2 (keeps.rows.readable.collections c.args.collection.now it.0 it.1) in
    handed_on _ _ _ _ c.from_residual-in_err-time.ensures.1 (subst (Stopped (state g.S.Store c.args.conn.now) (state g.S.Store c.collection_row.new.conn))
    (sym known) found.1))

pub returns : goal.returns
returns g c =
    reads_on c.in_ok-head.ensures (λ clean shows s id f limit live keeps there is.
    let found = shows s limit keeps in
    let it = there_is (get s.collections c.args.collection.now) c.in-Some.head (sym c.in-Some.is ∙ found.0) in
    let time = c.in_ok-time.ensures c.args.collection.now it.0 it.2 (keeps.rows.readable.collections c.args.collection.now it.0 it.1) in
    let kept = subst (λ p. IsStored p f) (sym (c.as_deref.ensures.value ∙ time)) (stored_at _ s keeps c.args.collection.now id it.0 it.1 f there) in
    read_on (state g.S.Store c.args.conn.now) (state g.S.Store c.collection_row.new.conn) f c.read_row.result found.1
    (c.read_row.ensures.reads f (some_cell f c.args.row.now is) (text_first f c.args.row.now is)
    kept))
