use Rattle.std.proofs.Common.{◌≡◌, Ok, Err, OnOk, Result}
use Rattle.matchit.specs.Rows.{RowsOf}
use Rattle.matchit.specs.Route.{Scan, parse_route}
use Rattle.matchit.specs.Router.{RouteOf, InsertsRead}
use Rattle.matchit.specs.declared.error.InsertError.{InsertError}
use Rattle.streetmap_routes.specs.declared.routes.Route.{Route}
use Rattle.streetmap_routes.specs.Routes.{put, put_scan}
use Rattle.streetmap_routes.proofs.routes.add.Goals as goal

added : (r : Result Scan InsertError) (path : Route) (old new : RowsOf (RouteOf Route)) (result : Result (Unit {0}) InsertError) → InsertsRead r path old new result → OnOk result (new ≡ put_scan r path old)
added (Ok s) path old new (Ok u) says = says.1
added (Ok s) path old new (Err e) says = tt
added (Err e) path old new (Ok u) says = says.0
added (Err e) path old new (Err f) says = tt

pub returns : goal.returns
unfolding put
returns c = added (parse_route c.args.text.now) c.args.route _ _ _ c.insert.ensures
