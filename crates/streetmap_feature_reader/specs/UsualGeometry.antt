-- The members of a geometry that were found among the tokens of its text. RFC 7946 3.1.
use Rattle.std.specs.Prelude.{Option, codes, option_map}
use Rattle.serde_json.specs.Data.{Data, string, Members, no_members}
use Rattle.serde_json.specs.View.{view}
use Rattle.streetmap_geojson.specs.declared.kind.SimpleKind.{SimpleKind}
use Rattle.streetmap_geojson.specs.Kind.{kind_name}
use Rattle.streetmap_feature_reader.specs.declared.usual_geometry.UsualGeometry.{UsualGeometry}
use Rattle.streetmap_feature_reader.specs.Places.{found}

-- the members that were found, in byte order of their names
abbrev pub members_of : (coordinates : Option Data) → Option SimpleKind → Members
members_of coordinates kind = found (codes "coordinates") coordinates
    (found (codes "type") (option_map (λ k. string (kind_name k)) kind) no_members)

abbrev pub geometry_members : UsualGeometry → Members
geometry_members m = members_of (option_map view m.coordinates) m.kind
