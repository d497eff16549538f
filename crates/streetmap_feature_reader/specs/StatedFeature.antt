-- A feature among other values, read from its tokens. RFC 7946 3.2.
use Rattle.std.specs.Prelude.{◌≡◌, ℕ, List, Option, Some, MatchOption, codes, option_map}
use Rattle.std.specs.Prelude.{Result, Ok, Err}
use Rattle.json.specs.Token.{Token}
use Rattle.serde_json.specs.Data.{Data, Members, no_members, put}
use Rattle.serde_json.specs.View.{view}
use Rattle.serde_json.specs.declared.value.Value.{Value}
use Rattle.streetmap_json.specs.Reads.{Fails}
use Rattle.streetmap_json.specs.Values.{value_at}
use Rattle.streetmap_json.specs.declared.fault.ParseFault.{ParseFault}
use Rattle.streetmap_geojson.specs.FeatureMembers.{feature_object, geometry_data}
use Rattle.streetmap_feature_reader.specs.Places.{found}
use Rattle.streetmap_feature_reader.specs.declared.stated_feature.Found.{Found}
use Rattle.streetmap_feature_reader.specs.declared.stated_feature.StatedFeature.{StatedFeature}
use Rattle.streetmap_feature_reader.specs.declared.stated_feature.StatedFeature.TheVariants as cases

-- the value that was read
abbrev pub stated_data : StatedFeature → Data
stated_data (cases.Usual m) = feature_object (geometry_data m.geometry) (view m.id)
    (view m.properties)
stated_data (cases.Other v) = view v

-- the members that were found, in byte order of their names
abbrev pub found_of : (geometry id properties kind : Option Data) → Members
found_of geometry id properties kind = found (codes "geometry") geometry (found (codes "id") id
    (found (codes "properties") properties (found (codes "type") kind no_members)))

abbrev pub found_values : Found → Members
found_values f = found_of (option_map geometry_data f.geometry) (option_map view f.id)
    (option_map view f.properties) (option_map view f.kind)

-- the value of the member of this name is read: it is put at its place, or returned
abbrev pub TakesMember : (depth : ℕ) (name : List ℕ) → (old new : Found)
    → Result (Option Value) ParseFault → (before following : List Token) → Type 0
TakesMember depth name old new (Ok o) before following =
    (d : Data) × (value_at depth before ≡ Some (d, following))
    × MatchOption o (found_values new ≡ put name d (found_values old))
    (λ v. (view v ≡ d) × (new ≡ old))
TakesMember depth name old new (Err fault) before following = Fails fault (value_at depth before)
