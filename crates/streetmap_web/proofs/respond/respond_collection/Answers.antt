use Rattle.std.proofs.Common.{ap}
use Rattle.std.specs.Option.{option_map}
use Rattle.streetmap_ledger.specs.SummaryView.{summary_value}
use Rattle.streetmap_web.specs.Response.{found_collection}
use Rattle.streetmap_web.proofs.ReadResponses.{found_responds, failed_responds, collection_reads}
use Rattle.streetmap_web.proofs.Statuses.{collection_well}
use Rattle.streetmap_web.proofs.respond.respond_collection.Goals as goal

pub returns-in-Ok : goal.returns-in-Ok
returns-in-Ok g c =
    let root = c.args.root.now in
    found_responds root _ (collection_reads root c.args.name.now) c.found_collection.result c.or_starved.result
    (found_collection root (option_map summary_value c.in-Ok.summary)) c.in-Ok.ensures
    c.found_collection.ensures c.or_starved.ensures.ok c.or_starved.ensures.err (λ s is. ap (found_collection root) is) (collection_well root _)

pub returns-in-Err : goal.returns-in-Err
returns-in-Err g c = failed_responds _ _ (collection_reads c.args.root.now c.args.name.now) c.in-Err.fault c.in-Err.ensures
