use Rattle.std.proofs.Common.{◌∙◌, sym}
use Rattle.std.specs.FinMap.{get}
use Rattle.streetmap_rows.proofs.ReadsInTurn.{reads_then}
use Rattle.streetmap_rows.proofs.ResultCases.{handed_on}
use Rattle.streetmap_reading.proofs.OneRowMore.{outlines_reported}
use Rattle.streetmap_reading.proofs.outlines.outlines_of.Goals as goal

pub returns : goal.returns
returns g c =
    reads_then c.in_ok-_row.ensures c.in_ok-outlines.ensures (λ s limit keeps same is shows.
    let under = shows s limit keeps in
    (outlines_reported (get s.collections c.args.collection.now) c.in-Some._row _ (sym c.in-Some.is ∙ is) under.0, under.1))

pub returns-in_err-outlines : goal.returns-in_err-outlines
returns-in_err-outlines g c =
    reads_then c.in_ok-_row.ensures c.in_err-outlines.ensures (λ s limit keeps same is shows.
    handed_on _ _ _ _ c.from_residual-in_err-outlines.ensures.1 (shows s limit keeps))
