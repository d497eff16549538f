use Rattle.std.proofs.Common.{subst, sym}
use Rattle.streetmap_ledger.specs.declared.outline.FeatureOutline.{FeatureOutline}
use Rattle.streetmap_outlines.specs.Outlines.{IsListedIf}
use Rattle.streetmap_outlines.proofs.Listed.{Listed}
use Rattle.streetmap_outlines.proofs.chunk.Chunk.has.Goals as goal

pub returns-in-Ok : goal.returns-in-Ok
returns-in-Ok c = λ same cells listed.
    let number = c.args.self.now.number in
    let old : FeatureOutline = c.index.result.now in
    let here = subst (Listed cells number) (sym c.index.ensures) (listed c.in-Ok.place old c.in-Ok.ensures.bound) in
    c.is_same_extent.ensures same cells number (subst (IsListedIf cells number) (sym c.extent.ensures) here)
