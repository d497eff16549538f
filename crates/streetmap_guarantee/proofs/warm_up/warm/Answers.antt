use Rattle.std.proofs.Common.{◌∙◌, Err, sym, ap, subst}
use Rattle.std.proofs.lemmas.Result.{err_from_is_err_and}
use Rattle.streetmap_ledger.specs.Keep.{IsRead}
use Rattle.streetmap_ledger.proofs.Calls.{read_made, read_after, read_then, read_failed}
use Rattle.streetmap_guarantee.proofs.warm_up.warm.Goals as goal

pub returns-in_err-summaries : goal.returns-in_err-summaries
returns-in_err-summaries g c =
    let r = c.from_residual in
    let p = err_from_is_err_and r.result r.ensures.1 in
    subst (λ x. IsRead g.K.Keeper.model c.args.keeper.now c.collections.new.self x (λ s _. Unit {0})) (sym (p.1 ∙ ap (λ x. Err x) p.2))
    (read_failed c.in_err-summaries.ensures)

pub loop-summary-init : goal.loop-summary-init
loop-summary-init g c = read_made c.in_ok-summaries.ensures (λ s e is. tt)

pub loop-summary-preserved : goal.loop-summary-preserved
loop-summary-preserved g c = read_after c.loop-summary.invariant c.in_ok-collection.ensures (λ s e is also. tt)

pub returns-in_err-collection : goal.returns-in_err-collection
returns-in_err-collection g c =
    let r = c.from_residual-in_err-collection in
    let p = err_from_is_err_and r.result r.ensures.1 in
    subst (λ x. IsRead g.K.Keeper.model c.args.keeper.now c.collection.new.self x (λ s _. Unit {0})) (sym (p.1 ∙ ap (λ x. Err x) p.2))
    (read_failed (read_then {Both = λ s x. Unit {0}} c.loop-summary.invariant c.in_err-collection.ensures (λ s x e is also. tt)))
