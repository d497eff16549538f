-- A summary as a value.
use Rattle.std.specs.Prelude.{List, map, string_bytes}
use Rattle.std.specs.Option.{option_map}
use Rattle.streetmap_grid.specs.Views.{box_value}
use Rattle.streetmap_ledger.specs.Summaries.{SummaryValue}
use Rattle.streetmap_ledger.specs.declared.summary.Summary.{Summary}

-- what a summary holds
abbrev pub summary_value : Summary → SummaryValue
summary_value s = record {
  id = string_bytes s.id;
  title = string_bytes s.title;
  time = option_map
      string_bytes s.time;
  extent = option_map box_value s.extent;
}

-- what summaries hold, in order
abbrev pub summary_values : List Summary → List SummaryValue
summary_values ss = map summary_value ss
