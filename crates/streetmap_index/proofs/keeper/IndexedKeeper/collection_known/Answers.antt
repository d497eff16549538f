use Rattle.std.proofs.Common.{refl, sym}
use Rattle.streetmap_ledger.proofs.Calls.{read_so}
use Rattle.streetmap_index.proofs.Over.{read_beside}
use Rattle.streetmap_index.proofs.keeper.IndexedKeeper.collection_known.Goals as goal

pub returns-in-Some : goal.returns-in-Some
returns-in-Some g c =
    read_so (read_beside c.collection_with.ensures refl) (λ s x e is. is (e.1.0 _ _ (sym c.in-Some.ensures.value)))

pub returns-in-None : goal.returns-in-None
returns-in-None g c = read_beside c.collection.ensures refl
