use Rattle.streetmap.proofs.opened.apply_file.Goals as goal

pub returns : goal.returns
returns g c clean s held =
    let done = c.apply-ended.ensures in
    done.leaves clean s (c.in_ok-keeper.ensures.opened (done.began_clean clean) s held)
