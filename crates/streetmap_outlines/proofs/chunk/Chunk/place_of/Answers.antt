use Rattle.std.proofs.Common.{string_bytes, rules}
use Rattle.std.proofs.lemmas.Fn.{always_returns_same}
use Rattle.streetmap_batch.specs.Text.{text_cmp}
use Rattle.streetmap_ledger.specs.declared.outline.FeatureOutline.{FeatureOutline}
use Rattle.streetmap_outlines.proofs.chunk.Chunk.place_of.Goals as goal

pub returns-clause-place : goal.returns-clause-place
returns-clause-place c = rw (← c.as_slice.ensures.value) (c.binary_search_by.ensures.position
    (λ (o : FeatureOutline). text_cmp (string_bytes o.id) c.args.id.now) (always_returns_same _ _ _ (λ a r g called. search rules)))
