use Rattle.streetmap_index.proofs.Over.{read_noted}
use Rattle.streetmap_index.proofs.keeper.IndexedKeeperKeeper.page.Goals as goal

pub returns-in-Err : goal.returns-in-Err
returns-in-Err g c = read_noted g.K.Keeper.model c.in-Err.ensures c.note_fault.ensures.keeper c.note_fault.ensures.noted
