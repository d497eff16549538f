use Rattle.std.proofs.Common.{refl}
use Rattle.streetmap_journal.proofs.Over.{read_beside}
use Rattle.streetmap_journal.proofs.keeper.JournaledKeeperTagged.accepted.Goals as goal

pub returns : goal.returns
returns g c =
    let W = g.W.JournalWriter in
    read_beside g.K.Keeper.model W.contents W.reported W.is_kept W.fails c.accepted.ensures refl
