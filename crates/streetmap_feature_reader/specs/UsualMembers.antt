-- The members of a feature that were found among the tokens of its text. RFC 7946 3.2.
use Rattle.std.specs.Prelude.{Bool, Option, codes, option_map, if◌then◌else◌}
use Rattle.serde_json.specs.Data.{Data, string, Members, no_members, member}
use Rattle.serde_json.specs.View.{view}
use Rattle.streetmap_geojson.specs.FeatureMembers.{geometry_data}
use Rattle.streetmap_feature_reader.specs.declared.usual_members.UsualMembers.{UsualMembers}
use Rattle.streetmap_feature_reader.specs.Places.{found}

-- the members that were found, in byte order of their names
abbrev pub members_of : (geometry id properties : Option Data) → Bool → Members
members_of geometry id properties is_feature =
    found (codes "geometry") geometry (found (codes "id") id
    (found (codes "properties") properties
    (if is_feature then member (codes "type") (string (codes "Feature")) no_members
    else no_members)))

abbrev pub found_members : UsualMembers → Members
found_members m = members_of (option_map geometry_data m.geometry) (option_map view m.id)
    (option_map view m.properties) m.is_feature
