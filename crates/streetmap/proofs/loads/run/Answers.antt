use Rattle.std.proofs.Common.{ℕ, None, Err, refl, sym, subst}
use Rattle.std.specs.Prelude.{◌||◌}
use Rattle.streetmap_batch.specs.Text.{Text}
use Rattle.streetmap_ledger.specs.State.{State}
use Rattle.streetmap_loading.specs.Options.{load_value}
use Rattle.streetmap.specs.Changes.{LoadedUnless}
use Rattle.streetmap.proofs.Commands.{hold_one_of, hold_more, leaves_only, unless_failed}
use Rattle.streetmap.proofs.loads.run.Goals as goal

pub returns-in-Ok-clause-leaves : goal.returns-in-Ok-clause-leaves
returns-in-Ok-clause-leaves g c clean s is =
    let ready = c.in-Ok.ensures in
    let sent = c.send_text.ensures in
    let reads = c.args.requested.check || c.args.requested.print in
    let there = ready.kept.stays refl (sent.began_clean clean) s is in
    hold_more (λ t it. subst (λ (key : Text). LoadedUnless reads s c.args.load.each key None c.send_text.result t) ready.key
    (subst (λ (each : ℕ). LoadedUnless reads s each (load_value c.in-Ok.load).key None c.send_text.result t) ready.each it)) (sent.leaves clean s there)

pub returns-in-Err-clause-leaves : goal.returns-in-Err-clause-leaves
returns-in-Err-clause-leaves g c clean s is =
    let model = g.K.Keeper.model in
    let kept = c.in-Err.ensures.kept in
    let new = c.skipping.new.sink.keeper in
    let reads = c.args.requested.check || c.args.requested.print in
    let key = (load_value c.args.load).key in
    let stopped = c.in-Err.fault in
    hold_one_of model g.met.K.Durable.images_hold_states c.args.sink.now.keeper new s (LoadedUnless reads s c.args.load.each key None (Err stopped)) is
    kept.preserved clean
    (λ t left. subst (λ (u : State). LoadedUnless reads s c.args.load.each key None (Err stopped) u)
    (sym (leaves_only model new s t (kept.leaves clean s is) left)) (unless_failed model reads s c.args.load.each key None stopped))

pub returns-in-Ok-clause-began_clean : goal.returns-in-Ok-clause-began_clean
returns-in-Ok-clause-began_clean g c clean = c.in-Ok.ensures.kept.began_clean (c.send_text.ensures.began_clean clean)

pub returns-in-Err-clause-began_clean : goal.returns-in-Err-clause-began_clean
returns-in-Err-clause-began_clean g c clean = c.in-Err.ensures.kept.began_clean clean
