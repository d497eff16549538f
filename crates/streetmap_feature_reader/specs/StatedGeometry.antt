-- A geometry among other values, read from its tokens. RFC 7946 3.1.
use Rattle.std.specs.Prelude.{Option, codes, option_map}
use Rattle.serde_json.specs.Data.{Data, Members, no_members}
use Rattle.serde_json.specs.View.{view}
use Rattle.streetmap_feature_reader.specs.Places.{found}
use Rattle.streetmap_feature_reader.specs.declared.stated_geometry.FoundGeometry.{FoundGeometry}

-- the members that were found, in byte order of their names
abbrev pub geometry_of : (coordinates kind : Option Data) → Members
geometry_of coordinates kind = found (codes "coordinates") coordinates
    (found (codes "type") kind no_members)

abbrev pub geometry_values : FoundGeometry → Members
geometry_values f = geometry_of (option_map view f.coordinates) (option_map view f.kind)
