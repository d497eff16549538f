use Rattle.std.proofs.Common.{sym, subst, ◌∙◌}
use Rattle.std.specs.FinMap.{values}
use Rattle.streetmap_ledger.specs.Summaries.{all_vertices}
use Rattle.streetmap_outlines.specs.Outlines.{joined, AreBounded}
use Rattle.streetmap_outlines.specs.Outlines.{Pairs}
use Rattle.streetmap_outlines.proofs.Pairing.{paired}
use Rattle.streetmap_outlines.proofs.Extents.{bounds_extent, same_summary}
use Rattle.streetmap_index.proofs.summaries.summary.Goals as goal

pub returns : goal.returns
returns c = λ d known holds.
    let cs = c.as_slice.result.now in
    let fs = values d.features in
    same_summary _ _ c.in_ok-from_str.ensures.ok
    (c.in_ok-from_str-2.ensures.ok ∙ (c.as_str.ensures.value ∙ known.title))
    (c.in_ok-owned.ensures ∙ (c.as_deref.ensures.value ∙ known.time))
    (bounds_extent (all_vertices fs) c.extent_of.result (c.extent_of.ensures (subst AreBounded (sym c.as_slice.ensures.value) known.outlines.chunks.bounded)
    d.features fs (subst (λ xs. Pairs d.features (joined xs) fs) (sym c.as_slice.ensures.value)
    (paired (joined c.args.outlined.now.outlines.chunks.items) d known.outlines.chunks.outlines holds))))
