use Rattle.std.proofs.Common.{◌∙◌, sym, ap, subst, Some, option_map}
use Rattle.std.specs.FinMap.{get, values}
use Rattle.sqlite.specs.Held.{state}
use Rattle.streetmap_query.specs.Views.{query_value}
use Rattle.streetmap_ledger.specs.State.{Collection}
use Rattle.streetmap_ledger.specs.Pages.{page_over}
use Rattle.streetmap_rows.specs.TableReads.{Stopped}
use Rattle.streetmap_rows.proofs.ReadsInTurn.{reads_on, reads_then}
use Rattle.streetmap_rows.proofs.ResultCases.{handed_on}
use Rattle.streetmap_reading.proofs.PageStatements.{there_is}
use Rattle.streetmap_reading.proofs.page.page_of.Goals as goal

pub returns-in_err-time : goal.returns-in_err-time
returns-in_err-time g c =
    reads_on c.in_ok-row.ensures (λ clean shows s limit keeps.
    let found = shows s limit keeps in
    let it = there_is (get s.collections c.args.collection.now) c.in-Some.row (sym c.in-Some.is ∙ found.0) in
    let known = c.in_err-time.ensures c.args.collection.now it.0 it.2 (keeps.rows.readable.collections c.args.collection.now it.0 it.1) in
    handed_on _ _ _ _ c.from_residual-in_err-time.ensures.1 (subst (Stopped (state g.S.Store c.args.conn.now) (state g.S.Store c.collection_row.new.conn))
    (sym known) found.1))

pub returns : goal.returns
returns g c =
    reads_then c.in_ok-row.ensures c.in_ok-page.ensures (λ s limit keeps same is shows.
    let it = there_is (get s.collections c.args.collection.now) c.in-Some.row (sym c.in-Some.is ∙ is) in
    let time = c.in_ok-time.ensures c.args.collection.now it.0 it.2 (keeps.rows.readable.collections c.args.collection.now it.0 it.1) in
    let under = shows s it.0 limit keeps it.1 (sym (c.as_deref.ensures.value ∙ time)) in
    (ap Some under.0 ∙ sym (ap (option_map (λ (d : Collection). page_over (query_value c.args.query.now) (values d.features))) it.1), under.1))

pub returns-in_err-page : goal.returns-in_err-page
returns-in_err-page g c =
    reads_then c.in_ok-row.ensures c.in_err-page.ensures (λ s limit keeps same is shows.
    let it = there_is (get s.collections c.args.collection.now) c.in-Some.row (sym c.in-Some.is ∙ is) in
    let time = c.in_ok-time.ensures c.args.collection.now it.0 it.2 (keeps.rows.readable.collections c.args.collection.now it.0 it.1) in
    handed_on _ _ _ _ c.from_residual-in_err-page.ensures.1 (shows s it.0 limit keeps it.1 (sym (c.as_deref.ensures.value ∙ time))))
