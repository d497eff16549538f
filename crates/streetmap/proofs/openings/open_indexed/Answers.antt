use Rattle.streetmap.proofs.openings.open_indexed.Goals as goal

pub returns : goal.returns
returns g c =
    rw c.new.ensures.keeper (record { opened = λ clean s held. (c.in_ok-keeper.ensures.opened clean s held, c.new.ensures.index s) })
