-- Values that are neither an array nor an object, and have no fraction.
use Rattle.std.specs.Prelude.{Option, None, Some}
use Rattle.serde_json.specs.Data.{Data, null, boolean, string}
use Rattle.streetmap_feature_text.specs.Written.{number_data}
use Rattle.streetmap_compact_reader.specs.declared.flat.Flat.{Flat}
use Rattle.streetmap_compact_reader.specs.declared.flat.Flat.TheVariants as flat

-- the JSON value
abbrev pub flat_data : Flat → Data
flat_data flat.Null = null
flat_data (flat.Truth b) = boolean b
flat_data (flat.Whole z) = number_data z
flat_data (flat.Text s) = string s.now

-- the value that was found, or else the other
abbrev pub found_or : Option Flat → Option Data → Option Data
found_or None other = other
found_or (Some v) other = Some (flat_data v)
