use Rattle.streetmap_replay.proofs.CallsInTurn.{calls_then, reads_then}
use Rattle.streetmap_replay.proofs.ReplayEnds.{compared, not_given}
use Rattle.streetmap_replay.proofs.comparison.check_replay.Goals as goal

pub returns-in-Ok-clause-kept : goal.returns-in-Ok-clause-kept
returns-in-Ok-clause-kept g c = reads_then c.in-Ok.ensures.kept c.compare_collections.ensures.kept

pub returns-in-Ok-clause-fresh : goal.returns-in-Ok-clause-fresh
returns-in-Ok-clause-fresh g c = calls_then c.in-Ok.ensures.fresh c.compare_collections.ensures.fresh.calls

pub returns-in-Ok-clause-checks : goal.returns-in-Ok-clause-checks
returns-in-Ok-clause-checks g c = λ h j s e o.
    let after = c.compare_collections.ensures in
    let began = after.kept.calls.began_clean h in
    let before = c.in-Ok.ensures.gives began (after.fresh.calls.began_clean j) s e o in
    compared s before.0 before.1 g.L.Keeper.model c.replay.new.fresh c.compare_collections.new.fresh c.compare_collections.result
    (after.compares h j s before.0 (c.in-Ok.ensures.kept.stays began s e) before.2) (after.fresh.stays j before.0 before.2)

pub returns-in-Err-clause-checks : goal.returns-in-Err-clause-checks
returns-in-Err-clause-checks g c = λ h j s e o.
    not_given s c.in-Err.fault (g.L.Keeper.model.represents c.replay.new.fresh) (c.in-Err.ensures.gives h j s e o)
