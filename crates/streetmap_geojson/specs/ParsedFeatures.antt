-- What a feature reads as, or its first fault: the lines of `feature_at` are in the reading order.
-- RFC 7946 3.2.
use Rattle.std.specs.Prelude.{ℕ, Bool, true, false, ◌||◌, List, codes, Option, None, is_some}
use Rattle.std.specs.Prelude.{option_map, option_and_then, unwrap_or, Result, Ok, Err, nat_le}
use Rattle.std.specs.Prelude.{if◌then◌else◌, bytes_eq}
use Rattle.serde_json.specs.Data.{Data, null, depth}
use Rattle.serde_json.specs.Find.{as_null, as_str, as_object, get}
use Rattle.serde_json.specs.Written.{has_float}
use Rattle.streetmap_geojson.specs.declared.fault.Fault.{Fault}
use Rattle.streetmap_geojson.specs.declared.fault.Fault.TheVariants.{WrongType, TooDeep}
use Rattle.streetmap_geojson.specs.declared.fault.Fault.TheVariants.{BadProperties, Fraction}
use Rattle.streetmap_geojson.specs.FeatureValue.{FeatureValue}
use Rattle.streetmap_geojson.specs.Fault.{◌>>=◌}
use Rattle.streetmap_geojson.specs.Id.{id_of}
use Rattle.streetmap_geojson.specs.ParsedGeometries.{geometry, value_of}
use Rattle.streetmap_geojson.specs.Times.{time_of, as_fault}

-- passes, or is that fault
abbrev pub unless : Bool → Fault → Result Bool Fault
unless b fault = if b then Ok true else Err fault

abbrev pub max_levels : ℕ
max_levels = 64

abbrev pub is_feature : Data → Bool
is_feature d = unwrap_or (option_map (λ s. bytes_eq s (codes "Feature"))
    (option_and_then as_str (get (codes "type") d))) false

-- an object or null
abbrev pub is_properties : Data → Bool
is_properties d = is_some (as_null d) || is_some (as_object d)

-- its numbers are whole, at any depth
abbrev pub properties_of : Data → Result Data Fault
properties_of d = if is_properties d then (if has_float d then Err Fraction else Ok d)
    else Err BadProperties

-- a missing member is null
abbrev pub member_of : List ℕ → Data → Data
member_of name d = unwrap_or (get name d) null

unfoldable pub feature_at : (place : Option ℕ) (time_property : Option (List ℕ)) → Data
    → Result FeatureValue Fault
feature_at place time_property d = do
  typed ← unless (is_feature d) WrongType
  flat ← unless (nat_le (depth d) max_levels) TooDeep
  id ← id_of place (get (codes "id") d)
  g ← value_of (geometry (member_of (codes "geometry") d) 0)
  properties ← properties_of (member_of (codes "properties") d)
  time ← as_fault (time_of time_property properties)
  Ok (record { id = id; geometry = g; properties = properties; time = time })

-- a feature alone has no place
abbrev pub feature : (time_property : Option (List ℕ)) → Data → Result FeatureValue Fault
feature time_property d = feature_at None time_property d
