-- The roles of the members and elements of a feature (RFC 7946, sections 3.1 and 3.2).
use Rattle.std.specs.Prelude.{ℕ, List, codes, bytes_eq, ◌==◌, ◌&&◌, ◌||◌, if◌then◌else◌}
use Rattle.streetmap_decimal.specs.declared.axis.Axis.TheVariants.{Easting, Northing, Height}
use Rattle.streetmap_placing.specs.declared.role.Role.{Role}
use Rattle.streetmap_placing.specs.declared.role.Role.TheVariants.{Feature, Geometry, Geometries}
use Rattle.streetmap_placing.specs.declared.role.Role.TheVariants.{Coordinates, Coordinate}
use Rattle.streetmap_placing.specs.declared.role.Role.TheVariants.{Properties, Other}

-- a feature has a geometry and properties, a geometry coordinates or geometries, and everything
-- within properties is properties
abbrev pub member_role : Role → List ℕ → Role
member_role Feature name =
    if bytes_eq name (codes "geometry") then Geometry
    else (if bytes_eq name (codes "properties") then Properties else Other)
member_role Geometry name =
    if bytes_eq name (codes "coordinates") then Coordinates
    else (if bytes_eq name (codes "geometries") then Geometries else Other)
member_role Properties name = Properties
member_role Geometries name = Other
member_role Coordinates name = Other
member_role (Coordinate axis) name = Other
member_role Other name = Other

-- within coordinates: a position is an array of two or three (RFC 7946, section 3.1.1), easting,
-- northing and height
abbrev pub role_in_array : (count index : ℕ) → Role
role_in_array count index =
    if ((count == 2) || (count == 3)) && (index == 0) then Coordinate Easting
    else (if ((count == 2) || (count == 3)) && (index == 1) then Coordinate Northing
    else (if (count == 3) && (index == 2) then Coordinate Height else Coordinates))

-- the element at that index of an array of `count` elements
abbrev pub element_role : Role → (count index : ℕ) → Role
element_role Geometries count index = Geometry
element_role Coordinates count index = role_in_array count index
element_role (Coordinate axis) count index = role_in_array count index
element_role Properties count index = Properties
element_role Feature count index = Other
element_role Geometry count index = Other
element_role Other count index = Other
