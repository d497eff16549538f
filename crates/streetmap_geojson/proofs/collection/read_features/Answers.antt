use Rattle.std.proofs.Common.{map}
use Rattle.std.proofs.lemmas.Result.{err_from_is_err_and}
use Rattle.std.proofs.lemmas.List.{map_push}
use Rattle.serde_json.specs.View.{view}
use Rattle.streetmap_geojson.specs.FeatureView.{feature_value}
use Rattle.streetmap_geojson.proofs.Collections.{goes_on, ends, is_done}
use Rattle.streetmap_geojson.proofs.collection.read_features.Goals as goal

pub loop-i-preserved : goal.loop-i-preserved
loop-i-preserved c = rw (c.in_ok-push.ensures.items, map_push feature_value c.loop-i.read.items c.in_ok-read_placed.field-0) (goes_on _ view c.args.values.now c.loop-i.i c.index-values-i.result (map feature_value c.loop-i.read.items) (feature_value c.in_ok-read_placed.field-0) _ c.loop-i-test.true c.index-values-i.is c.in_ok-read_placed.ensures c.loop-i.invariant)

pub returns-in_err-read_placed : goal.returns-in_err-read_placed
returns-in_err-read_placed c =
    let p = err_from_is_err_and c.from_residual.result c.from_residual.ensures.1 in
    rw (p.1, p.2) (ends _ view c.args.values.now c.loop-i.i c.index-values-i.result c.in_err-read_placed.field-0.0 (map feature_value c.loop-i.read.items) _ c.loop-i-test.true c.index-values-i.is c.in_err-read_placed.ensures c.loop-i.invariant)

pub returns : goal.returns
returns c = is_done _ view c.args.values.now c.loop-i.i (map feature_value c.loop-i.read.items) _ c.loop-i-test.false c.loop-i.invariant
