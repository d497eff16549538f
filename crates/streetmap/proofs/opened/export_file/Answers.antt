use Rattle.streetmap.proofs.opened.export_file.Goals as goal

pub returns : goal.returns
returns g c clean s held =
    let done = c.export_collection-ended.ensures in
    done.leaves clean s (c.in_ok-keeper.ensures.opened (done.began_clean clean) s held)
