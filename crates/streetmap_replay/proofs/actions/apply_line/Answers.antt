use Rattle.std.proofs.Common.{ℕ, Option, Ok, sym, subst}
use Rattle.streetmap_batch.specs.BatchView.{batch_value}
use Rattle.streetmap_replay.specs.LineEffects.{acted_with, IsFollowed}
use Rattle.streetmap_replay.proofs.actions.apply_line.Goals as goal

pub returns-in-Some : goal.returns-in-Some
returns-in-Some g c = subst (λ (n : Option ℕ). IsFollowed g.K.Keeper.model c.args.keeper.now c.apply_next.new.keeper
    (λ s. acted_with s n (Ok (batch_value c.args.batch.now))) c.apply_next.result)
    (sym c.in-Some.is) c.apply_next.ensures

pub returns-in-None : goal.returns-in-None
returns-in-None g c = subst (λ (n : Option ℕ). IsFollowed g.K.Keeper.model c.args.keeper.now c.apply.new.keeper
    (λ s. acted_with s n (Ok (batch_value c.args.batch.now))) c.apply.result)
    (sym c.in-None.is) c.apply.ensures
