use Rattle.std.proofs.Common.{ap}
use Rattle.streetmap_web.specs.Response.{found_feature}
use Rattle.streetmap_web.proofs.ReadResponses.{found_responds, failed_responds, feature_reads}
use Rattle.streetmap_web.proofs.Statuses.{feature_well}
use Rattle.streetmap_web.proofs.respond.respond_feature.Goals as goal

pub returns-in-Ok : goal.returns-in-Ok
returns-in-Ok g c =
    let root = c.args.root.now in
    let name = c.args.name.now in
    found_responds root _ (feature_reads root name c.args.id.now) c.found_feature.result c.or_starved.result (found_feature root name c.in-Ok.feature)
    c.in-Ok.ensures
    c.found_feature.ensures c.or_starved.ensures.ok c.or_starved.ensures.err (λ s is. ap (found_feature root name) is) (feature_well root name c.in-Ok.feature)

pub returns-in-Err : goal.returns-in-Err
returns-in-Err g c = failed_responds _ _ (feature_reads c.args.root.now c.args.name.now c.args.id.now) c.in-Err.fault c.in-Err.ensures
