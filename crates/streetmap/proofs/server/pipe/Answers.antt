use Rattle.streetmap.proofs.server.pipe.Goals as goal

pub returns-clause-guarantee : goal.returns-clause-guarantee
returns-clause-guarantee g c clean s represented = (_, _, _, _, c.pipe.ensures.guarantee clean s represented)
