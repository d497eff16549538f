use Rattle.std.proofs.Common.{[], refl, ap, sym, subst, ◌∙◌}
use Rattle.std.specs.List.{count_by}
use Rattle.streetmap_outlines.specs.Outlines.{AllLieWithin, AllTimedBy, Pairs, has_extent, AreExtentsOf}
use Rattle.streetmap_outlines.proofs.chunk.Chunk.new.Goals as goal

pub returns-clause-bounded : goal.returns-clause-bounded
returns-clause-bounded c = record {
  within = subst (λ xs. AllLieWithin xs c.grown-bounds.result) c.as_slice.ensures.value c.grown-bounds.ensures.within;
  exact = λ features fs pairs. c.grown-bounds.ensures.exact features [] fs (subst (λ xs. Pairs features xs fs) (sym c.as_slice.ensures.value) pairs)
      (refl {a = []});
  counted = c.count_extents-with_extent.ensures ∙ ap (count_by has_extent) c.as_slice-2.ensures.value;
  timed = subst (λ xs. AllTimedBy xs c.bounds_of_seconds-seconds.result) c.as_slice-3.ensures.value c.bounds_of_seconds-seconds.ensures;
  extents = subst (AreExtentsOf c.keep_extents.new.extents.items) c.as_slice-4.ensures.value c.keep_extents.ensures;
}
