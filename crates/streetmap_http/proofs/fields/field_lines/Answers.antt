use Rattle.std.proofs.Common.{◌-◌, ◌∙◌, ap, rules, tests}
use Rattle.std.proofs.lemmas.Iterator.Consumers.{YieldsList-at, YieldsList-from_filter, count_from_yields_List}
use Rattle.std.proofs.lemmas.Iterator.Splits.{YieldsList-from_slice_split}
use Rattle.std.proofs.lemmas.List.Sums.{length-filter}
use Rattle.streetmap_http.specs.Lines.{line_texts, is_full, field_lines}
use Rattle.streetmap_http.proofs.fields.field_lines.Goals as goal

pub returns : goal.returns
unfolding field_lines
returns c = c.saturating_sub.ensures ∙ ap (λ n. n - 1)
    (count_from_yields_List _ _ c.count.ensures.ran
    (YieldsList-from_filter _ is_full
    (YieldsList-at c.filter.ensures.source (YieldsList-from_slice_split _ _ c.args.head.now c.split.ensures.rest c.split.ensures.done c.split.ensures.closure (λ x b q k. search (rules, tests))))
    c.filter.ensures.closure (λ x b q k. search (rules, tests)))
    ∙ length-filter is_full (line_texts c.args.head.now))
