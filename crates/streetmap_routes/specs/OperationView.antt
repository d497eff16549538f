-- What the functions that read a request say of their results.
use Rattle.std.specs.Prelude.{string_bytes}
use Rattle.streetmap_query.specs.Views.{query_value}
use Rattle.streetmap_batch.specs.BatchView.{batch_value}
use Rattle.streetmap_routes.specs.declared.routes.Resource.{Resource}
use Rattle.streetmap_routes.specs.declared.routes.Resource.TheVariants.{Landing, Api, Conformance}
use Rattle.streetmap_routes.specs.declared.routes.Resource.TheVariants.{Collections, Collection}
use Rattle.streetmap_routes.specs.declared.routes.Resource.TheVariants.{Items, Item, Batches}
use Rattle.streetmap_routes.specs.declared.operations.Operation.{Operation}
use Rattle.streetmap_routes.specs.declared.operations.Operation.TheVariants as operations
use Rattle.streetmap_routes.specs.Operations as operation

-- a resource as a value
abbrev pub resource_value : Resource → operation.ResourceValue
resource_value Landing = operation.landing
resource_value Api = operation.api
resource_value Conformance = operation.conformance
resource_value Collections = operation.collections
resource_value (Collection name) = operation.collection (string_bytes name)
resource_value (Items name) = operation.items (string_bytes name)
resource_value (Item name id) = operation.item (string_bytes name) (string_bytes id)
resource_value Batches = operation.batches

-- what is wanted, as a value
abbrev pub operation_value : Operation → operation.OperationValue
operation_value (operations.Faulty fault) = operation.faulty fault
operation_value operations.LandingPage = operation.landing_page
operation_value operations.ApiText = operation.api_text
operation_value operations.ConformanceClasses = operation.conformance_classes
operation_value operations.AllCollections = operation.all_collections
operation_value (operations.OneCollection name) = operation.one_collection (string_bytes name)
operation_value (operations.Page name q) = operation.page (string_bytes name) (query_value q)
operation_value (operations.Feature name id) = operation.feature (string_bytes name) (string_bytes
    id)
operation_value (operations.Changes after limit) = operation.changes after limit
operation_value operations.ServiceStatus = operation.service_status
operation_value (operations.Batch b) = operation.batch (batch_value b)
