use Rattle.std.proofs.Common.{map, option_and_then, codes}
use Rattle.serde_json.specs.View.{view}
use Rattle.serde_json.specs.Find.{as_array, get}
use Rattle.streetmap_geojson.proofs.Lists.{elements_there}
use Rattle.streetmap_geojson.proofs.collection.read_members.Goals as goal

pub returns-in-Some : goal.returns-in-Some
returns-in-Some c =
    let there = elements_there (option_and_then as_array (get (codes "features") (view c.args.value.now))) (map view c.deref.result.now) (rw c.deref.ensures.value c.in-Some.ensures) in
    rw there c.read_features.ensures
