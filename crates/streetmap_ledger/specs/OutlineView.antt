-- Outlines of the code as plain values.
use Rattle.std.specs.Prelude.{List, map, string_bytes}
use Rattle.std.specs.Option.{option_map}
use Rattle.streetmap_grid.specs.Views.{box_value}
use Rattle.streetmap_ledger.specs.Outlines.{FeatureOutlineValue}
use Rattle.streetmap_ledger.specs.declared.outline.FeatureOutline.{FeatureOutline}

abbrev pub feature_outline_value : FeatureOutline → FeatureOutlineValue
feature_outline_value o = record
    { id = string_bytes o.id; extent = option_map box_value o.extent; seconds = o.seconds }

abbrev pub feature_outline_values : List FeatureOutline → List FeatureOutlineValue
feature_outline_values os = map feature_outline_value os
