use Rattle.streetmap.proofs.served.pipe_file.Goals as goal

pub returns-in-Ok : goal.returns-in-Ok
returns-in-Ok g c clean s held =
    let piped = c.in-Ok.ensures in
    piped.guarantee clean s (c.in_ok-keeper.ensures.opened (piped.began_clean clean) s held)
