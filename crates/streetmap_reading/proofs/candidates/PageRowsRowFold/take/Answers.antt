use Rattle.std.proofs.Common.{refl}
use Rattle.std.specs.Option.{option_copied}
use Rattle.streetmap_rows.proofs.ResultCases.{handed_on}
use Rattle.streetmap_reading.specs.Held.{IsCandidate}
use Rattle.streetmap_reading.proofs.BetweenRows.{first_cell, first_text}
use Rattle.streetmap_reading.proofs.OneRowMore.{not_taken, page_more, read_so}
use Rattle.streetmap_reading.proofs.candidates.PageRowsRowFold.take.Goals as goal

pub returns-in-Ok : goal.returns-in-Ok
returns-in-Ok c = λ start rows held.
    let reads = c.in_ok-feature.ensures.reads in
    page_more start c.args.self.now _ c.in_ok-feature.feature rows c.args.row.now held refl
    (λ f is fine. reads f (first_cell f _ is) (first_text f _ is) fine) c.in-Ok.ensures.ok

pub returns-in_err-feature : goal.returns-in_err-feature
returns-in_err-feature c = λ start rows held.
    let reported = c.in_err-feature.ensures in
    handed_on _ _ _ _ c.from_residual.ensures.1
    (not_taken (IsCandidate (option_copied start.property)) rows c.args.row.now _ reported.refuses (λ it.
    reported.reads it.feature (first_cell it.feature _ it.is) (first_text it.feature _ it.is)
    (read_so start c.args.self.now rows held it.feature it.fine)))
