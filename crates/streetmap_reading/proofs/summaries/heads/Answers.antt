use Rattle.std.proofs.Common.{◌≡◌, [], Ok, Err, map, ap, sym, ◌∙◌, refl}
use Rattle.std.specs.FinMap.{entries}
use Rattle.std.specs.List.{AllByRecursion}
use Rattle.sqlite.specs.Held.{state}
use Rattle.sqlite.specs.Order.{Row}
use Rattle.streetmap_batch.specs.Text.{Text}
use Rattle.streetmap_ledger.specs.State.{Collection}
use Rattle.streetmap_ledger.specs.Summaries.{SummaryValue}
use Rattle.streetmap_ledger.specs.SummaryView.{summary_values}
use Rattle.streetmap_rows.specs.Rows.{collection_cells}
use Rattle.streetmap_rows.specs.Statements.{select_collections}
use Rattle.streetmap_rows.proofs.ResultCases.{handed_on}
use Rattle.streetmap_reading.proofs.Folded.{folded}
use Rattle.streetmap_reading.specs.Held.{head_of, HoldsHeads}
use Rattle.streetmap_reading.specs.Views.{IsHeadRow}
use Rattle.streetmap_reading.proofs.RowsInTurn.{none_mapped}
use Rattle.streetmap_reading.proofs.ShownOutlines.{collections_at, names_each, head_rows}
use Rattle.streetmap_rows.proofs.ReadsInTurn.{reads_by}
use Rattle.streetmap_reading.proofs.summaries.heads.Goals as goal

pub returns : goal.returns
returns g c =
    reads_by select_collections _ c.in_ok-fold_rows.ensures (λ s keeps. (collections_at _ s keeps).plain) (λ clean took s limit keeps.
    let old = state g.S.Store c.args.conn.now in
    let new = state g.S.Store c.fold_rows.new.conn in
    let reported_of : Text × Collection → SummaryValue = λ e. head_of e.0 e.1 in
    let cells : Text × Collection → Row = λ e. collection_cells e.0 e.1 in
    let none : summary_values c.new-heads.result.items ≡ [] =
    ap summary_values c.new-heads.ensures.items in
    let took = folded (λ _. HoldsHeads) (λ _. AllByRecursion IsHeadRow) select_collections [] old
    new c.new-heads.result c.fold_rows.new.fold _ (collections_at _ s keeps) limit
    (head_rows _ s keeps) (Ok tt)
    took
    (λ es is fine. none ∙ sym (ap (map reported_of) (none_mapped cells es is))) in
    (took.0 (entries s.collections) refl (names_each _ s keeps), took.1))

pub returns-in_err-fold_rows : goal.returns-in_err-fold_rows
returns-in_err-fold_rows g c =
    reads_by select_collections _ c.in_err-fold_rows.ensures (λ s keeps. (collections_at _ s keeps).plain) (λ clean took s limit keeps.
    let old = state g.S.Store c.args.conn.now in
    let new = state g.S.Store c.fold_rows.new.conn in
    let reported_of : Text × Collection → SummaryValue = λ e. head_of e.0 e.1 in
    let cells : Text × Collection → Row = λ e. collection_cells e.0 e.1 in
    let none : summary_values c.new-heads.result.items ≡ [] =
    ap summary_values c.new-heads.ensures.items in
    let reported = folded (λ _. HoldsHeads) (λ _. AllByRecursion IsHeadRow) select_collections [] old
    new c.new-heads.result c.fold_rows.new.fold _ (collections_at _ s keeps) limit
    (head_rows _ s keeps) (Err c.in_err-fold_rows.field-0.0)
    took
    (λ es is fine. none ∙ sym (ap (map reported_of) (none_mapped cells es is))) in
    handed_on _ _ _ _ c.from_residual.ensures.1 reported)
