use Rattle.std.proofs.Common.{refl}
use Rattle.streetmap_ledger.proofs.Calls.{read_then, read_failed}
use Rattle.streetmap_index.proofs.Over.{read_after_change}
use Rattle.streetmap_index.proofs.keeper.IndexedKeeper.collection_learnt.Goals as goal

pub returns-then-not-is_due : goal.returns-then-not-is_due
returns-then-not-is_due g c = read_after_change g.K.Keeper.model c.collection_known.ensures refl c.is_due.ensures.index

pub returns-in-Ok : goal.returns-in-Ok
returns-in-Ok g c = read_after_change g.K.Keeper.model (read_then c.in-Ok.ensures c.collection_known-in-Ok.ensures (λ s y e _ is. is)) refl
    c.is_due.ensures.index

pub returns-in-Err : goal.returns-in-Err
returns-in-Err g c = read_after_change g.K.Keeper.model (read_failed c.in-Err.ensures) refl c.is_due.ensures.index
