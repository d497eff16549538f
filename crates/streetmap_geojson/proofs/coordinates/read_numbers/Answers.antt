use Rattle.std.proofs.Common.{◌≡◌, rules, Ok}
use Rattle.serde_json.specs.View.{view}
use Rattle.streetmap_geojson.specs.ParsedGeometries.{coordinate}
use Rattle.streetmap_geojson.proofs.Lists.{list_of_three}
use Rattle.streetmap_geojson.proofs.coordinates.read_numbers.Goals as goal

pub returns-in_ok-z-in-len3 : goal.returns-in_ok-z-in-len3
returns-in_ok-z-in-len3 c =
    let three = list_of_three c.args.elements.now c.x-item-then-elements-lt4.result c.y-item-then-elements-lt4.result c.z-item.result c.in-len3.len_at_least c.in-len3.len_below c.x-item-then-elements-lt4.is c.y-item-then-elements-lt4.is c.z-item.is in
    let x : coordinate (view c.x-item-then-elements-lt4.result) ≡ Ok c.in_ok-x-in-len3.x = c.in_ok-x-in-len3.ensures.reads in
    let y : coordinate (view c.y-item-then-elements-lt4.result) ≡ Ok c.in_ok-y-in-len3.y = c.in_ok-y-in-len3.ensures.reads in
    let z : coordinate (view c.z-item.result) ≡ Ok c.in_ok-z-in-len3.z = c.in_ok-z-in-len3.ensures.reads in
    rw (three, x, y, z) (search rules)
