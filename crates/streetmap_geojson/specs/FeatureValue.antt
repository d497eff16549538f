-- What a feature says. RFC 7946 3.2: its id, its geometry or none, its properties (an object or
-- null), and its time, if it has one.
use Rattle.std.specs.Prelude.{ℕ, List, Option, None}
use Rattle.serde_json.specs.Data.{Data}
use Rattle.streetmap_grid.specs.Values.{GeometryValue}
use Rattle.streetmap_moment.specs.IntervalValue.{IntervalValue}

pub record FeatureValue : Type 0 where
  pub id : List ℕ
  pub geometry : Option GeometryValue
  pub properties : Data
  pub time : Option IntervalValue

-- the feature without its time
abbrev pub untimed : FeatureValue → FeatureValue
untimed f = record { id = f.id; geometry = f.geometry; properties = f.properties; time = None }

-- the feature with this time
abbrev pub retimed : FeatureValue → Option IntervalValue → FeatureValue
retimed f time = record { id = f.id; geometry = f.geometry; properties = f.properties; time = time }
