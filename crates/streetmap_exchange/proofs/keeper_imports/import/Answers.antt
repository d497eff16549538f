use Rattle.std.proofs.Common.{◌≡◌, Err, refl, sym, ap, subst, ◌∙◌}
use Rattle.std.proofs.lemmas.Result.{err_from_is_err_and}
use Rattle.streetmap_replay.specs.Calls.{AreCalls}
use Rattle.streetmap_replay.proofs.CallsInTurn.{no_calls}
use Rattle.streetmap_exchange.specs.Imports.{import_of}
use Rattle.streetmap_exchange.specs.KeeperImports.{Imports, IsOfReply, import_answer}
use Rattle.streetmap_exchange.proofs.KeeperLemmas.{read_imports, unread_answer, unread_imports, unread_reply}
use Rattle.streetmap_exchange.proofs.keeper_imports.import.Goals as goal

pub returns-in_err-batch-clause-reported : goal.returns-in_err-batch-clause-reported
returns-in_err-batch-clause-reported g c = λ b e.
    let k = c.args.keeper.now in
    let p = err_from_is_err_and c.from_residual.result c.from_residual.ensures.1 in
    subst (λ r. IsOfReply b.key (λ x. g.K.Keeper.model.applies k b x k) (k ≡ k) r) (sym (p.1 ∙ ap (λ x. Err x) p.2))
    (unread_reply b.key (λ x. g.K.Keeper.model.applies k b x k) (k ≡ k) c.in_err-batch.field-0.0 _ c.in_err-batch.ensures.exact refl)

pub returns-in_err-batch-clause-calls : goal.returns-in_err-batch-clause-calls
returns-in_err-batch-clause-calls g c =
    let k = c.args.keeper.now in
    let p = err_from_is_err_and c.from_residual.result c.from_residual.ensures.1 in
    subst (λ r. AreCalls g.K.Keeper.model k k (import_answer r)) (sym (p.1 ∙ ap (λ x. Err x) p.2))
    (subst (AreCalls g.K.Keeper.model k k) (sym (unread_answer c.in_err-batch.field-0.0 _ c.in_err-batch.ensures.exact)) (no_calls k))

pub returns-in_err-batch-clause-imports : goal.returns-in_err-batch-clause-imports
returns-in_err-batch-clause-imports g c = λ h s e.
    let k = c.args.keeper.now in
    let p = err_from_is_err_and c.from_residual.result c.from_residual.ensures.1 in
    subst (λ r. Imports g.K.Keeper.model k k s (import_of c.args.replace c.args.key.now c.args.collection.now c.args.text.now) r)
    (sym (p.1 ∙ ap (λ x. Err x) p.2))
    (unread_imports g.K.Keeper.model k s c.in_err-batch.field-0.0 _ c.in_err-batch.ensures.exact e)

pub returns-clause-imports : goal.returns-clause-imports
returns-clause-imports g c = λ h s e. read_imports g.K.Keeper.model c.args.keeper.now c.apply_import.new.keeper s _ _ _ c.in_ok-batch.ensures.exact
    (c.apply_import.ensures.imports h s e)
