use Rattle.std.proofs.Common.{sym, subst, arith, rules}
use Rattle.streetmap_outlines.specs.Outlines.{IsExtentIf, AreExtentsOf}
use Rattle.streetmap_outlines.proofs.Beside.{one_more}
use Rattle.streetmap_outlines.proofs.extent_column.keep_extents.Goals as goal

pub loop-outline-init : goal.loop-outline-init
loop-outline-init c = record {
  count = search rules;
  kept = λ i e o here there. search rules;
}

pub loop-outline-preserved : goal.loop-outline-preserved
loop-outline-preserved c =
    let inv = c.loop-outline.invariant in
    let os = c.args.outlines.now in
    let items = c.in-Ok.ensures.items in
    record {
      count = search rules;
      kept = subst (λ es. AreExtentsOf es os) (sym items) (one_more c.loop-outline.extents.items os c.loop-outline.outline-index c.envelope_of.result
          c.outline-item.result inv.count (omega arith) c.outline-item.is inv.kept (subst (IsExtentIf c.envelope_of.result) c.extent.ensures
          c.envelope_of.ensures));
    }
