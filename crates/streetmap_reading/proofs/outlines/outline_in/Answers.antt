use Rattle.std.proofs.Common.{◌≡◌, ◌∙◌, ap, arith, option_map, string_bytes}
use Rattle.streetmap_grid.specs.Views.{box_value}
use Rattle.sqlite.specs.Order.{Row, column}
use Rattle.streetmap_reading.proofs.RowReadings.{good_of, no_err, within}
use Rattle.streetmap_reading.proofs.outlines.outline_in.Goals as goal

pub returns-in_err-extent-clause-reads : goal.returns-in_err-extent-clause-reads
returns-in_err-extent-clause-reads c = λ p is fine.
    absurd (c.in_err-extent.ensures.reads p.0.extent fine.extent (within _ _ 4 is (omega arith))
    (ap (λ (r : Row). column r 1) is) (ap (λ (r : Row). column r 2) is)
    (ap (λ (r : Row). column r 3) is) (ap (λ (r : Row). column r 4) is))

pub returns-in_err-seconds-clause-reads : goal.returns-in_err-seconds-clause-reads
returns-in_err-seconds-clause-reads c = λ p is fine.
    no_err _ _ (c.in_err-seconds.ensures.reads p.0.seconds (within _ _ 6 is (omega arith))
    (ap (λ (r : Row). column r 5) is) (ap (λ (r : Row). column r 6) is))

pub returns-in_err-rowid-clause-reads : goal.returns-in_err-rowid-clause-reads
returns-in_err-rowid-clause-reads c = λ p is fine.
    no_err _ _ (c.in_err-rowid.ensures.reads p.1 (within _ _ 7 is (omega arith))
    (ap (λ (r : Row). column r 7) is))

pub returns-clause-reads : goal.returns-clause-reads
returns-clause-reads c = λ p is fine.
    let id = c.in_ok-id.ensures.reads p.0.id (within _ _ 0 is (omega arith))
    (ap (λ (r : Row). column r 0) is) fine.id in
    let extent = c.in_ok-extent.ensures.reads p.0.extent fine.extent (within _ _ 4 is (omega arith))
    (ap (λ (r : Row). column r 1) is) (ap (λ (r : Row). column r 2) is)
    (ap (λ (r : Row). column r 3) is) (ap (λ (r : Row). column r 4) is) in
    let seconds = good_of (c.in_ok-seconds.ensures.reads p.0.seconds (within _ _ 6 is (omega arith))
    (ap (λ (r : Row). column r 5) is) (ap (λ (r : Row). column r 6) is)) in
    let parts : record { id = string_bytes c.in_ok-id.id; extent = option_map box_value c.in_ok-extent.extent; seconds = c.in_ok-seconds.seconds } ≡ p.0 =
    λ i. record { id = id i; extent = extent i; seconds = seconds i } in
    c.of.ensures.outline ∙ parts
