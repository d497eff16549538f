use Rattle.streetmap.proofs.served.serve_file.Goals as goal

pub returns-in-Ok-clause-guarantee : goal.returns-in-Ok-clause-guarantee
returns-in-Ok-clause-guarantee g c clean s held =
    let served = c.in-Ok.ensures in
    served.guarantee clean s (c.in_ok-keeper.ensures.opened (served.began_clean clean) s held)
