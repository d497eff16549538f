use Rattle.std.proofs.Common.{◌∙◌}
use Rattle.std.specs.FinMap.{values}
use Rattle.streetmap_query.specs.Views.{query_value}
use Rattle.streetmap_ledger.specs.Pages.{requested_interval}
use Rattle.streetmap_rows.proofs.ReadsInTurn.{reads_on}
use Rattle.streetmap_rows.proofs.ResultCases.{handed_on}
use Rattle.streetmap_reading.specs.Choices.{chosen_of}
use Rattle.streetmap_reading.proofs.PageRowsShown.{stored}
use Rattle.streetmap_reading.proofs.PageStatements.{page_is}
use Rattle.streetmap_reading.proofs.page.page_under.Goals as goal

pub returns-in-Ok : goal.returns-in-Ok
returns-in-Ok g c =
    reads_on c.in_ok-take_candidates.ensures (λ clean shows s d limit keeps there property.
    let q = query_value c.args.query.now in
    let took = shows q s d limit keeps there property c.new-fold.ensures in (
      c.in-Ok.ensures q (chosen_of q.bbox (requested_interval q) d) took.0 ∙ page_is c.args.query.now d.time (values d.features)
          (stored s _ keeps c.args.collection.now d there),
      took.1,
    ))

pub returns : goal.returns
returns g c =
    reads_on c.in_ok-take_candidates.ensures (λ clean shows s d limit keeps there property.
    (shows (query_value c.args.query.now) s d limit keeps there property c.new-fold.ensures).1)

pub returns-in_err-take_candidates : goal.returns-in_err-take_candidates
returns-in_err-take_candidates g c =
    reads_on c.in_err-take_candidates.ensures (λ clean shows s d limit keeps there property.
    handed_on _ _ _ _ c.from_residual.ensures.1
    (shows (query_value c.args.query.now) s d limit keeps there property c.new-fold.ensures))
