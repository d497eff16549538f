-- The rows of the router of the eight paths.
use Rattle.std.specs.Prelude.{ℕ, List, [], Result, Ok, Err, codes}
use Rattle.matchit.specs.Rows.{RowsOf}
use Rattle.matchit.specs.Route.{Scan, parse_route}
use Rattle.matchit.specs.Router.{RouteOf, route_from}
use Rattle.matchit.specs.Order.{placed}
use Rattle.matchit.specs.declared.error.InsertError.{InsertError}
use Rattle.streetmap_routes.specs.declared.routes.Route.{Route}
use Rattle.streetmap_routes.specs.declared.routes.Route.TheVariants.{Landing, Api, Conformance}
use Rattle.streetmap_routes.specs.declared.routes.Route.TheVariants.{Collections, Collection}
use Rattle.streetmap_routes.specs.declared.routes.Route.TheVariants.{Items, Item, Batches}

-- the rows with one more, if its text is a route
abbrev pub put_scan : Result Scan InsertError → Route → RowsOf (RouteOf Route)
    → RowsOf (RouteOf Route)
put_scan (Ok s) path rows = placed (s.pattern, route_from s path) rows
put_scan (Err e) path rows = rows

-- the rows with the route of this text
unfoldable pub put : List ℕ → Route → RowsOf (RouteOf Route) → RowsOf (RouteOf Route)
put text path rows = put_scan (parse_route text) path rows

-- the rows of the eight paths
unfoldable pub the_rows : RowsOf (RouteOf Route)
the_rows =
    put (codes "/batches") Batches
    (put (codes "/collections/{collectionId}/items/{featureId}") Item
    (put (codes "/collections/{collectionId}/items") Items
    (put (codes "/collections/{collectionId}") Collection
    (put (codes "/collections") Collections
    (put (codes "/conformance") Conformance
    (put (codes "/api") Api
    (put (codes "/") Landing [])))))))
