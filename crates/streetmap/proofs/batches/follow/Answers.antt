use Rattle.std.proofs.Common.{List, ℕ, Option, subst}
use Rattle.std.specs.Io.Buffered.{reader_remaining}
use Rattle.streetmap.specs.Faults.{end_of_followed}
use Rattle.streetmap.specs.Changes.{Applied}
use Rattle.streetmap.proofs.Readers.{remaining_is}
use Rattle.streetmap.proofs.Commands.{hold_one_of, hold_still, nothing_read, applied}
use Rattle.streetmap.proofs.batches.follow.Goals as goal

pub returns-in_default-clause-leaves : goal.returns-in_default-clause-leaves
returns-in_default-clause-leaves g c clean s is = hold_still g.K.Keeper.model g.met.K.Durable.images_hold_states _ s _ is clean
    (nothing_read g.K.Keeper.model s _ _)

pub returns-in_default-new-clause-leaves : goal.returns-in_default-new-clause-leaves
returns-in_default-new-clause-leaves g c clean s is = hold_still g.K.Keeper.model g.met.K.Durable.images_hold_states _ s _ is clean
    (nothing_read g.K.Keeper.model s _ _)

pub returns-clause-leaves : goal.returns-clause-leaves
returns-clause-leaves g c clean s is =
    let model = g.K.Keeper.model in
    let says = c.follow_lines.ensures in
    let old = c.args.keeper.now in
    let new = c.follow_lines.new.keeper in
    let known = c.in-Ok.ensures in
    let same = remaining_is g.R.Read.remaining c.in-Ok.reader c.args.input known.inner known.empty known.capacity in
    rw c.of_followed.ensures (hold_one_of model g.met.K.Durable.images_hold_states old new s
    (Applied s (g.R.Read.remaining c.args.input) (end_of_followed c.follow_lines.result)) is says.calls.preserved clean
    (λ t left. subst (λ (text : Option (List ℕ)). Applied s text (end_of_followed c.follow_lines.result) t) same
    (applied model old new s t (reader_remaining g.R.Read.remaining c.in-Ok.reader) _ left c.follow_lines.result (says.follows clean s is))))

pub returns-clause-began_clean : goal.returns-clause-began_clean
returns-clause-began_clean g c clean = c.follow_lines.ensures.calls.began_clean clean
