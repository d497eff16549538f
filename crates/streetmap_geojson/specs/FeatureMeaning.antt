-- "A value reads as a feature, under a time property": by cases over RFC 7946 3.2, with no order of
-- steps.
use Rattle.std.specs.Prelude.{◌≡◌, ◌≤◌, ℕ, ℤ, List, codes, Option, None, Some, false, IsTrue}
use Rattle.std.specs.Prelude.{decimal}
use Rattle.std.specs.Fmt.{signed_decimal}
use Rattle.serde_json.specs.Data.{Data, number, string, depth}
use Rattle.serde_json.specs.Find.{as_integer, get}
use Rattle.serde_json.specs.Written.{has_float}
use Rattle.streetmap_geojson.specs.FeatureValue.{FeatureValue}
use Rattle.streetmap_geojson.specs.Id.{is_id}
use Rattle.streetmap_geojson.specs.ParsedGeometries.{max_positions}
use Rattle.streetmap_geojson.specs.Meaning.{ReadsAsGeometry, count_if, position_count}
use Rattle.streetmap_geojson.specs.ParsedFeatures.{is_feature, is_properties, member_of, max_levels}
use Rattle.streetmap_geojson.specs.Times.{IsTimeOf}

-- a text that is an id, or a whole number, by its decimal text
abbrev pub IsId : Data → List ℕ → Type 0
IsId (string s) id = IsTrue (is_id s) × (id ≡ s)
IsId (number n) id = (z : ℤ) × (as_integer n ≡ Some z) × (id ≡ signed_decimal z)
IsId _ id = ⊥

-- the member's id, or the feature's place if it has none
abbrev pub IsIdOf : (place : Option ℕ) → Option Data → List ℕ → Type 0
IsIdOf place None id = (n : ℕ) × (place ≡ Some n) × (id ≡ decimal n)
IsIdOf place (Some d) id = IsId d id

pub record ReadsAt (place : Option ℕ) (time_property : Option (List ℕ)) (d : Data)
    (f : FeatureValue) : Type 0 where
  pub typed : IsTrue (is_feature d)
  pub flat : depth d ≤ max_levels
  pub named : IsIdOf place (get (codes "id") d) f.id
  pub placed : ReadsAsGeometry (member_of (codes "geometry") d) f.geometry
  pub few : count_if position_count f.geometry ≤ max_positions
  pub reported : f.properties ≡ member_of (codes "properties") d
  pub kept : IsTrue (is_properties f.properties)
  pub whole : has_float f.properties ≡ false
  pub timed : IsTimeOf time_property f.properties f.time

-- a feature alone
abbrev pub ReadsAs : (time_property : Option (List ℕ)) → Data → FeatureValue → Type 0
ReadsAs time_property d f = ReadsAt None time_property d f
