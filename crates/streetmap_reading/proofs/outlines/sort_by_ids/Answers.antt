use Rattle.std.specs.Cmp.Lexicographic.{nat_list_cmp_total}
use Rattle.std.proofs.Common.{string_bytes, rules}
use Rattle.std.proofs.lemmas.List.Sorted.{answers_always}
use Rattle.std.proofs.lemmas.List.MinMax.{ranks_by}
use Rattle.streetmap_ledger.specs.declared.outline.FeatureOutline.{FeatureOutline}
use Rattle.streetmap_reading.specs.PassResults.{comes_before}
use Rattle.streetmap_reading.proofs.outlines.sort_by_ids.Goals as goal

pub returns-clause-sorted : goal.returns-clause-sorted
returns-clause-sorted c =
    c.sort_unstable_by.ensures.sorted comes_before
    (ranks_by nat_list_cmp_total (λ (o : FeatureOutline). string_bytes o.id))
    (answers_always _ _ _ (λ f a r g h. search rules))
