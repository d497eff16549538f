use Rattle.std.proofs.Common.{◌≡◌, ◌+◌, ◌∷◌, ◌++◌, [], true, take, ap, sym, subst, ◌∙◌, arith}
use Rattle.std.proofs.lemmas.List.{take_more, take_all}
use Rattle.streetmap_ledger.proofs.Calls.{read_then, read_made, read_failed, read_after}
use Rattle.streetmap_ledger.specs.declared.outline.FeatureOutline.{FeatureOutline}
use Rattle.streetmap_index.specs.OutlinePages.{TakesRun}
use Rattle.streetmap_index.proofs.Runs.{taken_after}
use Rattle.streetmap_index.proofs.run.take_each.Goals as goal

pub loop-outline-preserved : goal.loop-outline-preserved
loop-outline-preserved g c =
    let name = c.args.collection.now in
    let os = c.args.outlines.now in
    let i = c.loop-outline.outline-index in
    let o = c.outline-item.result in
    let old = c.args.fold.now in
    let new = c.take_one.new.fold in
    let next : take (i + 1) os ≡ take i os ++ o ∷ [] = take_more os i o c.loop-outline-test.true
    ∙ ap (λ (x : FeatureOutline). take i os ++ x ∷ []) (sym c.outline-item.is) in
    read_after c.loop-outline.invariant c.in-Ok-true.ensures
    (λ s e so_far one. subst (λ xs. TakesRun name xs old new s true) (sym next) (taken_after s name (take i os) (o ∷ []) old c.loop-outline.fold new so_far
    (λ _. one c.in-Ok-true.field-0-test)))

pub returns-in-Err : goal.returns-in-Err
returns-in-Err g c =
    let model = g.K.Keeper.model in
    read_failed (read_then c.loop-outline.invariant c.in-Err.ensures (λ s y e so_far one. one))

pub returns-in-Ok-false : goal.returns-in-Ok-false
returns-in-Ok-false g c = read_after c.loop-outline.invariant c.in-Ok-false.ensures (λ s e so_far one taken. absurd cc)

pub returns : goal.returns
returns g c =
    let os = c.args.outlines.now in
    let all : take c.loop-outline.outline-index os ≡ os = take_all c.loop-outline.outline-index os (omega arith) in
    read_made c.loop-outline.invariant
    (λ s e so_far. subst (λ xs. TakesRun c.args.collection.now xs c.args.fold.now c.loop-outline.fold s true) all so_far)
