use Rattle.std.proofs.Common.{ap, sym, ◌∙◌}
use Rattle.std.specs.FinMap.{values}
use Rattle.std.specs.Map.{values_of}
use Rattle.streetmap_memory.specs.Slots.{SlotCollection, live, live_values}
use Rattle.streetmap_ledger.specs.Summaries.{all_vertices, extent_if}
use Rattle.streetmap_memory.proofs.Live.{live_in_order}
use Rattle.streetmap_memory.proofs.ExtentLemmas.{bounds_extent, same_summary}
use Rattle.streetmap_memory.proofs.collection.PlainCollection.summary.Goals as goal

pub returns : goal.returns
returns c =
    let es = c.self.inside.slots.entries in
    same_summary _ _ c.in_ok-from_str.ensures.ok
    (c.in_ok-from_str-2.ensures.ok ∙ (c.as_str.ensures.value ∙ ap (λ (s : SlotCollection). s.title) c.self.view_is))
    (c.in_ok-owned.ensures ∙ c.time.ensures)
    (bounds_extent (all_vertices (live_values (values_of es))) c.bounds_of.result c.bounds_of.ensures.bounds
    ∙ ap (λ fs. extent_if (all_vertices fs)) (sym (live_in_order es c.bounds_of.ensures.ordered)
    ∙ ap (λ (s : SlotCollection). values (live s.slots)) c.self.view_is))
