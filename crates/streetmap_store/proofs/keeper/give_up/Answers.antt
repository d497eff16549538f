use Rattle.std.proofs.Common.{refl}
use Rattle.sqlite.specs.Held.{state}
use Rattle.sqlite.proofs.StateLemmas.{unchanged}
use Rattle.streetmap_store.proofs.keeper.give_up.Goals as goal

pub returns-in-Memory-clause-ends : goal.returns-in-Memory-clause-ends
returns-in-Memory-clause-ends g c clean = rw c.in-Memory.is (refl, λ live. unchanged (state g.S.Store c.args.conn.now) live)

pub returns-in-Store-clause-ends : goal.returns-in-Store-clause-ends
returns-in-Store-clause-ends g c clean = rw c.in-Store.is (c.settle.ensures.ends clean, c.settle.ensures.kept clean, c.settle.ensures.settled)

pub returns-in-Unread-clause-ends : goal.returns-in-Unread-clause-ends
returns-in-Unread-clause-ends g c clean = rw c.in-Unread.is refl
