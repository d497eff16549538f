use Rattle.std.proofs.Common.{◌≡◌, ◌++◌, drop}
use Rattle.sqlite.specs.Values.{bound}
use Rattle.streetmap_rows.specs.FeatureRows.{values_in}
use Rattle.streetmap_rows.proofs.feature_rows.values_of.Given as goal

abbrev pub invariant-rows : goal.invariant-rows
invariant-rows l =
    bound l.values.items ++ values_in l.collection (drop l.row-index l.rows) ≡ values_in l.collection l.rows
