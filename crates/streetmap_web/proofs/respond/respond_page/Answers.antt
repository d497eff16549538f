use Rattle.std.proofs.Common.{ap}
use Rattle.std.specs.Option.{option_map}
use Rattle.streetmap_query.specs.Views.{query_value}
use Rattle.streetmap_ledger.specs.PageView.{page_value}
use Rattle.streetmap_web.specs.Response.{found_page}
use Rattle.streetmap_web.proofs.ReadResponses.{found_responds, failed_responds, page_reads}
use Rattle.streetmap_web.proofs.Statuses.{page_well}
use Rattle.streetmap_web.proofs.respond.respond_page.Goals as goal

pub returns-in-Ok : goal.returns-in-Ok
returns-in-Ok g c =
    let root = c.args.root.now in
    let name = c.args.name.now in
    let query = query_value c.args.query.now in
    found_responds root _ (page_reads root name query) c.found_page.result c.or_starved.result
    (found_page root name query (option_map page_value c.in-Ok.page)) c.in-Ok.ensures
    c.found_page.ensures c.or_starved.ensures.ok c.or_starved.ensures.err (λ s is. ap (found_page root name query) is) (page_well root name query _)

pub returns-in-Err : goal.returns-in-Err
returns-in-Err g c = failed_responds _ _ (page_reads c.args.root.now c.args.name.now (query_value c.args.query.now)) c.in-Err.fault c.in-Err.ensures
