-- What a request wants, before the state is read. OGC 17-069, section 7.
use Rattle.std.specs.Prelude.{ℕ, [], ◌∷◌, Bool, false, unwrap_or, ◌||◌, ◌&&◌, Option, None, Some}
use Rattle.std.specs.Prelude.{option_map, option_and_then, Result, Ok, Err, codes, if◌then◌else◌}
use Rattle.std.specs.Prelude.{◌==◌, bytes_eq, slice_get, nat_lt, length}
use Rattle.std.specs.List.{before_first, after_first, position_or_len, slice_split}
use Rattle.std.specs.Str.{is_utf8}
use Rattle.percent_encoding.specs.Percent.{percent_decode}
use Rattle.matchit.specs.Seek.{first}
use Rattle.streetmap_http.specs.declared.answer_head.Methods.{Methods}
use Rattle.streetmap_http.specs.declared.answer_head.Methods.TheVariants.{Reads, Posts}
use Rattle.streetmap_query.specs.QueryValue.{QueryValue}
use Rattle.streetmap_query.specs.Query.{query_of, has_pair}
use Rattle.streetmap_query.specs.declared.fault.QueryFault.{QueryFault}
use Rattle.streetmap_query.specs.declared.fault.QueryFault.TheVariants.{UnknownParameter}
use Rattle.streetmap_batch.specs.BatchValue.{BatchValue}
use Rattle.streetmap_batch.specs.ParsedBatches.{batch_of}
use Rattle.streetmap_batch.specs.Text.{Text}
use Rattle.streetmap_batch.specs.declared.batch_fault.BatchFault.{BatchFault}
use Rattle.streetmap_routes.specs.ChangesQuery.{ChangesValue, changes_of, default_serial}
use Rattle.streetmap_routes.specs.ChangesQuery.{default_limit}
use Rattle.streetmap_routes.specs.Routes.{the_rows}
use Rattle.streetmap_routes.specs.declared.offers.Offers.{Offers}
use Rattle.streetmap_routes.specs.declared.routes.Route.{Route}
use Rattle.streetmap_routes.specs.declared.routes.Route.TheVariants as routes
use Rattle.streetmap_bodies.specs.declared.request_fault.RequestFault.{RequestFault}
use Rattle.streetmap_bodies.specs.declared.request_fault.RequestFault.TheVariants.{BadTarget}
use Rattle.streetmap_bodies.specs.declared.request_fault.RequestFault.TheVariants.{NotFound}
use Rattle.streetmap_bodies.specs.declared.request_fault.RequestFault.TheVariants.{MethodNotAllowed}
use Rattle.streetmap_bodies.specs.declared.request_fault.RequestFault.TheVariants.{Query, Batch}

-- a resource, with the names in its path
pub data ResourceValue : Type 0 where
  landing : ResourceValue
  api : ResourceValue
  conformance : ResourceValue
  collections : ResourceValue
  collection : (name : Text) → ResourceValue
  items : (name : Text) → ResourceValue
  item : (name id : Text) → ResourceValue
  batches : ResourceValue

-- what a path has at this place between its slashes
abbrev pub segment : ℕ → Text → Text
segment place path = unwrap_or (slice_get (slice_split (λ b. b == 47) path) place) []

-- bytes that are text
abbrev pub if_text : Text → Option Text
if_text bytes = if is_utf8 bytes then Some bytes else None

-- the same, percent-decoded; none if that is not text
unfoldable pub decoded : ℕ → Text → Option Text
decoded place path = if_text (percent_decode (segment place path))

-- the resource of a route, with the names that the path has
abbrev pub resource_by : Text → Route → Option ResourceValue
resource_by path routes.Landing = Some landing
resource_by path routes.Api = Some api
resource_by path routes.Conformance = Some conformance
resource_by path routes.Collections = Some collections
resource_by path routes.Collection = option_map collection (decoded 2 path)
resource_by path routes.Items = option_map items (decoded 2 path)
resource_by path routes.Item = option_and_then (λ name. option_map (item name) (decoded 4 path))
    (decoded 2 path)
resource_by path routes.Batches = Some batches

-- the route that the router finds for a path
unfoldable pub route_of : Text → Option Route
route_of path = option_map (λ row. row.value) (first the_rows path)

-- the resource of a path
unfoldable pub resource_at : Text → Option ResourceValue
resource_at path = option_and_then (resource_by path) (route_of path)

-- what is wanted: an error, or what is to be answered
pub data OperationValue : Type 0 where
  faulty : RequestFault → OperationValue
  landing_page : OperationValue
  api_text : OperationValue
  conformance_classes : OperationValue
  all_collections : OperationValue
  one_collection : (name : Text) → OperationValue
  page : (name : Text) → QueryValue → OperationValue
  feature : (name id : Text) → OperationValue
  changes : (after limit : ℕ) → OperationValue
  service_status : OperationValue
  batch : BatchValue → OperationValue

-- what a body wants: a batch, or the first fault in it
abbrev pub batch_operation : Result BatchValue BatchFault → OperationValue
batch_operation (Ok b) = batch b
batch_operation (Err fault) = faulty (Batch fault)

-- what a query wants: a page, or the first fault in it
abbrev pub page_operation : Text → Result QueryValue QueryFault → OperationValue
page_operation name (Ok q) = page name q
page_operation name (Err fault) = faulty (Query fault)

-- what a request for a resource without a query wants
abbrev pub unqueried : ResourceValue → Text → OperationValue
unqueried landing body = landing_page
unqueried api body = api_text
unqueried conformance body = conformance_classes
unqueried collections body = all_collections
unqueried (collection name) body = one_collection name
unqueried (items name) body = page_operation name (query_of None)
unqueried (item name id) body = feature name id
unqueried batches body = batch_operation (batch_of body)

-- a resource that takes no parameter
abbrev pub without_query : ResourceValue → Option Text → Text → OperationValue
without_query r query body = if has_pair query then faulty (Query UnknownParameter)
    else unqueried r body

-- by the query, and then by the body
abbrev pub queried : ResourceValue → Option Text → Text → OperationValue
queried (items name) query body = page_operation name (query_of query)
queried r query body = without_query r query body

-- the methods of a resource
abbrev pub methods_of : ResourceValue → Methods
methods_of batches = Posts
methods_of _ = Reads

-- whether a method is one of these
abbrev pub allows : Methods → Text → Bool
allows Reads method = bytes_eq method (codes "GET") || bytes_eq method (codes "HEAD")
allows Posts method = bytes_eq method (codes "POST")

-- by the path, and then by the method
abbrev pub placed : Option ResourceValue → Text → Option Text → Text → OperationValue
placed None method query body = faulty NotFound
placed (Some r) method query body =
    if allows (methods_of r) method then queried r query body
    else faulty (MethodNotAllowed (methods_of r))

-- the part of a target before its first question mark; RFC 3986, section 3.4
unfoldable pub path_part : Text → Text
path_part target = before_first (λ b. b == 63) target

-- the part after it, if any
unfoldable pub query_part : Text → Option Text
query_part target = if nat_lt (position_or_len (λ b. b == 63) target) (length target)
    then Some (after_first (λ b. b == 63) target) else None

-- whether a target begins with a slash
unfoldable pub begins_with_slash : Text → Bool
begins_with_slash [] = false
begins_with_slash (b ∷ bs) = b == 47

-- the whole order: the target, the path, the method, the query, the body
unfoldable pub operation_of : Text → Text → Text → OperationValue
operation_of method target body =
    if begins_with_slash target then placed (resource_at (path_part target)) method
    (query_part target) body else faulty BadTarget

-- ---- changes

-- what a query for changes wants: changes, or the first fault in it
abbrev pub changes_operation : Result ChangesValue RequestFault → OperationValue
changes_operation (Ok q) = changes (unwrap_or q.after default_serial)
    (unwrap_or q.limit default_limit)
changes_operation (Err fault) = faulty fault

-- what a request for changes wants: by the method, and then by the query
abbrev pub changes_wanted : (method : Text) → (query : Option Text) → OperationValue
changes_wanted method query =
    if allows Reads method then changes_operation (changes_of query)
    else faulty (MethodNotAllowed Reads)

-- the path of changes
abbrev pub changes_path : Text
changes_path = codes "/changes"

-- ---- status

-- what a request for the status wants: by the method, and then by the query
abbrev pub status_wanted : (method : Text) → (query : Option Text) → OperationValue
status_wanted method query =
    if allows Reads method
    then (if has_pair query then faulty (Query UnknownParameter) else service_status)
    else faulty (MethodNotAllowed Reads)

-- the path of the status
abbrev pub status_path : Text
status_path = codes "/status"

-- ---- with what a service offers

-- of a service that offers the status or not
abbrev pub status_or_other : (offered : Bool) → (method target body : Text) → OperationValue
status_or_other offered method target body =
    if offered && bytes_eq (path_part target) status_path
    then status_wanted method (query_part target) else operation_of method target body

-- what is wanted of a service that offers these paths
unfoldable pub operation_with : Offers → (method target body : Text) → OperationValue
operation_with offers method target body =
    if offers.changes && bytes_eq (path_part target) changes_path
    then changes_wanted method (query_part target)
    else status_or_other offers.status method target body
