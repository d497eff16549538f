use Rattle.std.specs.Prelude.{ℕ, List}
use Rattle.streetmap_geojson.specs.declared.id.Id.{Id}

-- an id is seen as its bytes
abbrev pub id_value : Id → List ℕ
id_value i = i
