use Rattle.std.proofs.Common.{refl}
use Rattle.std.specs.Option.{option_copied}
use Rattle.streetmap_rows.proofs.ResultCases.{handed_on}
use Rattle.streetmap_reading.specs.Held.{IsCandidate}
use Rattle.streetmap_reading.proofs.BetweenRows.{first_cell, first_text}
use Rattle.streetmap_reading.proofs.OneRowMore.{not_taken}
use Rattle.streetmap_reading.proofs.RunRows.{run_more, run_reads}
use Rattle.streetmap_reading.proofs.run.FeatureRowsRowFold.take.Goals as goal

pub returns : goal.returns
returns c = λ start rows held.
    let reads = c.in_ok-feature.ensures.reads in
    run_more start c.args.self.now _ c.in_ok-feature.feature rows c.args.row.now held refl
    c.in_ok-push.ensures.items
    (λ f is fine. reads f (first_cell f _ is) (first_text f _ is) fine)

pub returns-in_err-feature : goal.returns-in_err-feature
returns-in_err-feature c = λ start rows held.
    let reported = c.in_err-feature.ensures in
    handed_on _ _ _ _ c.from_residual.ensures.1
    (not_taken (IsCandidate (option_copied start.property)) rows c.args.row.now _ reported.refuses (λ it.
    reported.reads it.feature (first_cell it.feature _ it.is) (first_text it.feature _ it.is)
    (run_reads start c.args.self.now rows held it.feature it.fine)))
