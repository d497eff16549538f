-- The value of JSON bytes, or the fault of bytes that have none.
use Rattle.std.specs.Prelude.{ℕ, List, Result, ok_or}
use Rattle.serde_json.specs.Data.{Data}
use Rattle.streetmap_json.specs.JsonText.{json_value}
use Rattle.streetmap_geojson.specs.declared.fault.Fault.{Fault}
use Rattle.streetmap_geojson.specs.declared.fault.Fault.TheVariants.{NotJson}

-- bytes without a value are not JSON
abbrev pub json_of : List ℕ → Result Data Fault
json_of bytes = ok_or (json_value bytes) NotJson
