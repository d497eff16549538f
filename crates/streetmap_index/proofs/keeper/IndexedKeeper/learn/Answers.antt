use Rattle.std.proofs.Common.{Option, Err, refl, subst}
use Rattle.std.specs.FinMap.{get}
use Rattle.streetmap_ledger.specs.Keep.{IsRead}
use Rattle.streetmap_ledger.proofs.Calls.{read_made, read_kept, read_failed}
use Rattle.streetmap_ledger.specs.declared.reply.Fault.{Fault}
use Rattle.streetmap_index.specs.Index.{Learns, IsOutlinedIf}
use Rattle.streetmap_index.specs.declared.outlined.OutlinedCollection.{OutlinedCollection}
use Rattle.streetmap_index.proofs.Over.{read_over, read_beside}
use Rattle.streetmap_index.proofs.keeper.IndexedKeeper.learn.Goals as goal

pub returns-in-Ok-Some : goal.returns-in-Ok-Some
returns-in-Ok-Some g c =
    let model = g.K.Keeper.model in
    let name = c.args.collection.now in
    read_over
    (read_made {y = tt} {As = λ s _. IsOutlinedIf c.in-Ok-Some.outlined (get s.collections name)} c.in-Ok-Some.ensures
    (λ s e seen. subst (λ (o : Option OutlinedCollection). Learns name s o) c.in-Ok-Some.field-0-is seen))
    (λ s e known seen. (tt, (seen.1, c.keep.ensures s known seen.0)))

pub returns-in-Ok-None : goal.returns-in-Ok-None
returns-in-Ok-None g c =
    let model = g.K.Keeper.model in
    read_beside (read_made c.in-Ok-None.ensures (λ s e seen. tt)) refl

pub returns-in-Err-Memory : goal.returns-in-Err-Memory
returns-in-Err-Memory g c =
    let model = g.K.Keeper.model in
    let refused = subst (λ (f : Fault). IsRead {T = Option OutlinedCollection} model c.args.self.now.keeper c.learn.new.keeper (Err f)
    (Learns c.args.collection.now)) c.in-Err-Memory.field-0-is c.in-Err-Memory.ensures in
    read_over (read_kept {y = tt} {As = λ _ _. Unit {0}} refused (λ s e. tt)) (λ s e known seen. (tt, (seen.1, c.give_up.ensures.index s)))

pub returns-in-Err : goal.returns-in-Err
returns-in-Err g c =
    let model = g.K.Keeper.model in
    read_beside (read_failed c.in-Err.ensures) refl
