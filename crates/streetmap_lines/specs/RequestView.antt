-- A request as a value.
use Rattle.std.specs.Prelude.{option_map}
use Rattle.streetmap_lines.specs.Request.{LineRequest, batch, page, feature}
use Rattle.streetmap_lines.specs.declared.request.Request.{Request}
use Rattle.streetmap_lines.specs.declared.request.Request.TheVariants.{Batch, Page, Feature}

abbrev pub request_value : Request → LineRequest
request_value (Batch text) = batch text.now
request_value (Page collection query) = page collection.now (option_map (λ t. t.now) query)
request_value (Feature collection id) = feature collection.now id.now
