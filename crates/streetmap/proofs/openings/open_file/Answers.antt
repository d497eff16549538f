use Rattle.std.proofs.Common.{inl, inr}
use Rattle.streetmap.proofs.openings.open_file.Goals as goal

pub returns-in-Ok : goal.returns-in-Ok
returns-in-Ok g c =
    let says = c.in-Ok.ensures in
    record { opened = λ clean s held. elim held [ inl is ↦ says.opened clean s is | inr is ↦ says.carried clean s is ] }
