use Rattle.std.proofs.Common.{◌∙◌, sym, ap, subst, Some, option_map}
use Rattle.std.specs.FinMap.{get}
use Rattle.sqlite.specs.Held.{state}
use Rattle.streetmap_ledger.specs.Summaries.{summary_of}
use Rattle.streetmap_rows.specs.TableReads.{Stopped}
use Rattle.streetmap_rows.proofs.ReadsInTurn.{reads_on, reads_then}
use Rattle.streetmap_rows.proofs.ResultCases.{handed_on}
use Rattle.streetmap_reading.proofs.PageStatements.{there_is}
use Rattle.streetmap_reading.proofs.summaries.summary_of.Goals as goal

pub returns-in_err-head : goal.returns-in_err-head
returns-in_err-head g c =
    reads_on c.in_ok-row.ensures (λ clean shows s limit keeps.
    let found = shows s limit keeps in
    let it = there_is (get s.collections c.args.id.now) c.in-Some.row (sym c.in-Some.is ∙ found.0) in
    let known = c.in_err-head.ensures it.0 it.2 (keeps.rows.readable.collections c.args.id.now it.0 it.1) in
    handed_on _ _ _ _ c.from_residual-in_err-head.ensures.1 (subst (Stopped (state g.S.Store c.args.conn.now) (state g.S.Store c.collection_row.new.conn))
    (sym known) found.1))

pub returns : goal.returns
returns g c =
    reads_then c.in_ok-row.ensures c.in_ok-summary.ensures (λ s limit keeps same is shows.
    let it = there_is (get s.collections c.args.id.now) c.in-Some.row (sym c.in-Some.is ∙ is) in
    let head = c.in_ok-head.ensures it.0 it.2 (keeps.rows.readable.collections c.args.id.now it.0 it.1) in
    let reported = shows s limit keeps in
    (ap Some (reported.0 c.args.id.now it.0 it.1 head) ∙ sym (ap (option_map (summary_of c.args.id.now)) it.1), reported.1))

pub returns-in_err-summary : goal.returns-in_err-summary
returns-in_err-summary g c =
    reads_then c.in_ok-row.ensures c.in_err-summary.ensures (λ s limit keeps same is shows.
    handed_on _ _ _ _ c.from_residual-in_err-summary.ensures.1 (shows s limit keeps))
