use Rattle.std.proofs.Common.{subst, sym, arith}
use Rattle.serde_json.specs.View.{view}
use Rattle.streetmap_geojson.specs.Fault.{Gives}
use Rattle.streetmap_geojson.specs.FeatureMembers.{geometry_data}
use Rattle.streetmap_geojson.specs.FeatureView.{feature_value}
use Rattle.streetmap_geojson.proofs.UsualFeatures.{flat_is, deep_is}
use Rattle.streetmap_geojson.proofs.feature_members.read_members.Goals as goal

pub returns-then-are_flat : goal.returns-then-are_flat
returns-then-are_flat c =
    let m = c.args.members in
    subst (Gives feature_value c.read_flat.result) (sym (flat_is _ (geometry_data m.geometry) (view m.id) (view m.properties) (grind arith))) c.read_flat.ensures

pub returns-else-are_flat : goal.returns-else-are_flat
returns-else-are_flat c =
    let m = c.args.members in
    deep_is _ (geometry_data m.geometry) (view m.id) (view m.properties) (grind arith)
