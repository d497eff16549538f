use Rattle.std.proofs.Common.{◌≡◌, ◌∷◌, ◌++◌, map, ap, sym, ◌∙◌, append-nil}
use Rattle.streetmap_ledger.specs.Summaries.{SummaryValue, summary_of}
use Rattle.streetmap_ledger.specs.SummaryView.{summary_value, summary_values}
use Rattle.streetmap_memory.specs.Slots.{collected, summary_at}
use Rattle.streetmap_memory.proofs.CollectionsInOrder.{reported_last}
use Rattle.streetmap_memory.proofs.collections.summaries.Goals as goal

pub loop-id-preserved : goal.loop-id-preserved
loop-id-preserved c =
    let reported = c.loop-id.reported.items in
    let rest = map summary_at c.next.new.self in
    let one : summary_value c.in_ok-summary.field-0 ≡ summary_at (c.in-Some.id.now, c.in-Some.collection.now) = c.in_ok-summary.ensures
    ∙ ap (λ i. summary_of i (collected c.in-Some.collection.now)) c.as_str.ensures.value in
    ap (λ ss. summary_values ss ++ rest) c.in_ok-push.ensures.items
    ∙ (reported_last reported c.in_ok-summary.field-0 rest
    ∙ (ap (λ (s : SummaryValue). summary_values reported ++ s ∷ rest) one
    ∙ (ap (λ es. summary_values reported ++ map summary_at es) (sym c.in-Some.ensures.steps) ∙ c.loop-id.invariant)))

pub returns-clause-reported : goal.returns-clause-reported
returns-clause-reported c =
    sym (append-nil (summary_values c.loop-id.reported.items)) ∙ (ap (λ es. summary_values c.loop-id.reported.items ++ map summary_at es)
    (sym c.in-None.ensures.steps.0) ∙ c.loop-id.invariant)
