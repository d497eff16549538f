use Rattle.std.proofs.Common.{sym, ◌∙◌}
use Rattle.streetmap_journal.proofs.FrontLemmas.{shown_other}
use Rattle.streetmap_journal.proofs.front.take_zeros.Goals as goal

pub returns-then-not-are_zeros : goal.returns-then-not-are_zeros
returns-then-not-are_zeros g c =
    shown_other _ c.in-Ok.shown.now c.in-Ok.ensures.front
    (sym c.are_zeros.ensures ∙ c.if-not-are_zeros.true)
