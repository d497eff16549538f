use Rattle.std.proofs.Common.{take, subst, arith}
use Rattle.std.proofs.lemmas.List.{take_all}
use Rattle.std.proofs.lemmas.List.Elements.{All-nil, All-more}
use Rattle.streetmap_outlines.specs.Outlines.{IsListedIf, AreListedUnder}
use Rattle.streetmap_outlines.proofs.Listed.{Listed, still_under}
use Rattle.streetmap_outlines.proofs.in_cells.list_outlines.Goals as goal

pub loop-outline-init : goal.loop-outline-init
loop-outline-init c = record { kept = λ n box h. h; listed = All-nil (Listed c.args.cells.now c.args.number) }

pub loop-outline-preserved : goal.loop-outline-preserved
loop-outline-preserved c =
    let inv = c.loop-outline.invariant in
    let number = c.args.number in
    let os = c.args.outlines.now in
    let i = c.loop-outline.outline-index in
    let old = c.loop-outline.cells in
    let new = c.list_extent.new.cells in
    let keeps = c.list_extent.ensures.kept in
    record {
      kept = λ n box h. keeps n box (inv.kept n box h);
      listed = All-more (Listed new number) os i c.outline-item.result (omega arith) (still_under old new keeps number (take i os) inv.listed)
          (subst (Listed new number) c.outline-item.is (subst (IsListedIf new number) c.extent.ensures c.in_ok-list_extent.ensures.listed));
    }

pub returns-in_err-list_extent-clause-kept : goal.returns-in_err-list_extent-clause-kept
returns-in_err-list_extent-clause-kept c = λ n box h. c.list_extent.ensures.kept n box (c.loop-outline.invariant.kept n box h)

pub returns-clause-listed : goal.returns-clause-listed
returns-clause-listed c = subst (AreListedUnder c.loop-outline.cells c.args.number) (take_all c.loop-outline.outline-index c.args.outlines.now (omega arith))
    c.loop-outline.invariant.listed
