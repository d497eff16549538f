use Rattle.std.proofs.Common.{◌≡◌, List, [], ap, sym, subst, ◌∙◌, rules}
use Rattle.streetmap_ledger.specs.declared.summary.Summary.{Summary}
use Rattle.streetmap_ledger.specs.Summaries.{summary_of}
use Rattle.streetmap_index.proofs.Known.{Known}
use Rattle.streetmap_index.proofs.Listing.{IsReporting, reported_of_all, each_known, reports_on, none_left}
use Rattle.streetmap_index.proofs.summaries.summaries.Goals as goal

pub loop-id-init : goal.loop-id-init
loop-id-init c = λ s sound known all.
    let es = c.args.known.now.entries in
    let up = c.iter-id-items.ensures.ordered in
    let start : c.into_iter-id-iterator.result ≡ es = search rules in
    subst (λ (reported : List Summary). IsReporting s reported c.into_iter-id-iterator.result) (sym c.new-made.ensures.items)
    (subst (λ (left : Known). IsReporting s [] left) (sym start) (record { whole = reported_of_all s es up known all; known = each_known s es up known }))

pub loop-id-preserved : goal.loop-id-preserved
loop-id-preserved c = λ s sound known all.
    let telling = subst (λ (es : Known). IsReporting s c.loop-id.made.items es) c.in-Some.ensures.steps (c.loop-id.invariant s sound known all) in
    reports_on s c.loop-id.made.items c.push.new.self.items c.in-Some.id.now c.in-Some.outlined.now c.next.new.self c.in_ok-summary.field-0 telling
    c.in_ok-push.ensures.items
    (λ d at is. c.in_ok-summary.ensures d is (sound.made _ d at).holds ∙ ap (λ i. summary_of i d) c.as_str.ensures.value)

pub returns : goal.returns
returns c = λ s sound known all.
    none_left s c.loop-id.made.items (subst (λ (es : Known). IsReporting s c.loop-id.made.items es) c.in-None.ensures.steps.0
    (c.loop-id.invariant s sound known all))
