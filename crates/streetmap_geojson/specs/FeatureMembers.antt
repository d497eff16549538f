-- An object with the members that a feature usually has. RFC 7946 3.2.
use Rattle.std.specs.Prelude.{ℕ, List, codes, Option, None, Some, Result, Ok}
use Rattle.serde_json.specs.Data.{Data, object, string, member, no_members}
use Rattle.serde_json.specs.View.{view}
use Rattle.streetmap_geojson.specs.declared.fault.Fault.{Fault}
use Rattle.streetmap_geojson.specs.declared.geometry_member.GeometryMember.{GeometryMember}
use Rattle.streetmap_geojson.specs.declared.geometry_member.GeometryMember.TheVariants as members
use Rattle.streetmap_geojson.specs.declared.kind.SimpleKind.{SimpleKind}
use Rattle.streetmap_geojson.specs.Fault.{◌>>=◌}
use Rattle.streetmap_geojson.specs.ParsedFeatures.{properties_of}
use Rattle.streetmap_geojson.specs.FeatureValue.{FeatureValue}
use Rattle.streetmap_geojson.specs.Id.{id_of}
use Rattle.streetmap_geojson.specs.Kind.{kind_name}
use Rattle.streetmap_geojson.specs.ParsedGeometries.{geometry, value_of}
use Rattle.streetmap_geojson.specs.Times.{time_of, as_fault}

-- the object of a type that has coordinates and the value of its `coordinates`
abbrev pub simple_object : SimpleKind → (coordinates : Data) → Data
simple_object kind coordinates = object (member (codes "coordinates") coordinates
    (member (codes "type") (string (kind_name kind)) no_members))

-- the value of a member `geometry`
abbrev pub geometry_data : GeometryMember → Data
geometry_data (members.Simple kind coordinates) = simple_object kind (view coordinates)
geometry_data (members.Other value) = view value

-- the object of these members and the type `Feature`, in byte order of their names
abbrev pub feature_object : (geometry id properties : Data) → Data
feature_object geometry id properties = object (member (codes "geometry") geometry
    (member (codes "id") id
    (member (codes "properties") properties
    (member (codes "type") (string (codes "Feature")) no_members))))

-- what these members read as, or the first fault, if they are nested no deeper than allowed
unfoldable pub flat_feature : (time_property : Option (List ℕ)) → (placed named reported : Data)
    → Result FeatureValue Fault
flat_feature time_property placed named reported = do
  id ← id_of None (Some named)
  g ← value_of (geometry placed 0)
  properties ← properties_of reported
  time ← as_fault (time_of time_property properties)
  Ok (record { id = id; geometry = g; properties = properties; time = time })
