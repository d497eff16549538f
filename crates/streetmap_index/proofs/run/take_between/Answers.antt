use Rattle.std.proofs.Common.{◌++◌, ◌∙◌, Vec, option_map, sym, ap, subst}
use Rattle.std.specs.declared.alloc.Global.{Global}
use Rattle.streetmap_geojson.specs.FeatureValue.{FeatureValue}
use Rattle.streetmap_ledger.specs.Folds.{IsFoldOf}
use Rattle.streetmap_ledger.proofs.Calls.{read_made}
use Rattle.streetmap_index.proofs.Runs.{run_is, run_there}
use Rattle.streetmap_index.proofs.run.take_between.Goals as goal

pub returns-in-Ok : goal.returns-in-Ok
returns-in-Ok g c =
    let name = c.args.collection.now in
    let gs = c.in-Ok-Some.features.items in
    read_made c.in-Ok-Some.ensures (λ s e run taken d q met fs there pairs held.
    let took = c.in-Ok.ensures taken in
    let holds = ((g.K.Keeper.model.well_formed c.args.keeper.now s e).made name d there).holds in
    let all = run_there s name c.args.first.now c.args.last.now d gs there holds (ap (option_map (λ (fs : Vec FeatureValue Global). fs.items))
    (sym c.in-Ok-Some.field-0-is) ∙ run) in
    let same = run_is d.features c.args.outlines.now fs gs pairs took.0 all in
    subst (λ l. IsFoldOf q c.take_all.new.fold (met ++ l)) (sym same) (took.1 q met held))
