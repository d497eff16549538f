use Rattle.std.proofs.Common.{◌≡◌, ◌⊎◌}
use Rattle.sqlite.specs.Held.{state}
use Rattle.streetmap_store.proofs.Reopened.{opens_only, opens_some, opens_state, within_one, within_two}
use Rattle.streetmap_store.proofs.keeper.what_a_crash_leaves_opens.Goals as goal

pub returns-clause-one : goal.returns-clause-one
returns-clause-one g c s only left fresh =
    let old = state g.S.Store c.args.keeper.now.conn in
    opens_only old (state g.T.Store c.args.opened.now) (λ t. t ≡ s) (within_one old s only) left fresh

pub returns-clause-either : goal.returns-clause-either
returns-clause-either g c s t only left fresh =
    let old = state g.S.Store c.args.keeper.now.conn in
    opens_only old (state g.T.Store c.args.opened.now) (λ u. (u ≡ s) ⊎ (u ≡ t)) (within_two old s t only) left fresh

pub returns-clause-represents : goal.returns-clause-represents
returns-clause-represents g c s is left fresh = opens_state _ (state g.S.Store c.args.keeper.now.conn) (state g.T.Store c.args.opened.now) _ s is left fresh

pub returns-clause-states : goal.returns-clause-states
returns-clause-states g c states left fresh = opens_some (state g.S.Store c.args.keeper.now.conn) (state g.T.Store c.args.opened.now) states left fresh
