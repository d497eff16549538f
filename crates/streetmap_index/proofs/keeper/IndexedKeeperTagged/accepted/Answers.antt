use Rattle.std.proofs.Common.{refl}
use Rattle.streetmap_index.proofs.Over.{read_beside, read_noted}
use Rattle.streetmap_index.proofs.keeper.IndexedKeeperTagged.accepted.Goals as goal

pub returns-in-Ok : goal.returns-in-Ok
returns-in-Ok g c = read_beside c.in-Ok.ensures refl

pub returns-in-Err : goal.returns-in-Err
returns-in-Err g c = read_noted g.K.Keeper.model (read_beside c.in-Err.ensures refl) c.note_fault.ensures.keeper c.note_fault.ensures.noted
