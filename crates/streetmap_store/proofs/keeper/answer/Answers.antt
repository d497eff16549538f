use Rattle.std.proofs.Common.{refl, ap, Err, rules}
use Rattle.sqlite.specs.Held.{state}
use Rattle.sqlite.proofs.StateLemmas.{unchanged}
use Rattle.streetmap_store.proofs.TableCalls.{leaves_last}
use Rattle.streetmap_store.proofs.keeper.answer.Goals as goal

pub returns-in-Ok-clause-answers : goal.returns-in-Ok-clause-answers
returns-in-Ok-clause-answers g c =
    let store = c.args.conn.now.store in record {
      survives = search rules;
      last = leaves_last _ (g.met.S.Store.stays store) (g.met.S.Store.settled store);
      returns = rw c.in-Ok.is (refl, refl, λ live. unchanged (state g.S.Store c.args.conn.now) live);
    }

pub returns-in-Err-clause-answers : goal.returns-in-Err-clause-answers
returns-in-Err-clause-answers g c =
    let store = c.give_up-stop.new.conn.store in record {
      survives = c.give_up-stop.ensures.survives;
      last = leaves_last _ (g.met.S.Store.stays store) (g.met.S.Store.settled store);
      returns = rw c.in-Err.is (c.give_up-stop.result, ap (λ f. Err f) c.shut_for.ensures.value, c.shut_for.ensures.after, c.give_up-stop.ensures.ends);
    }
