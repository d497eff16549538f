-- What a contract sees of a query.
use Rattle.std.specs.Prelude.{◌≡◌, ℕ, List, Result, Ok, Err, option_map, string_bytes, IsErr}
use Rattle.streetmap_grid.specs.Views.{box_value}
use Rattle.streetmap_moment.specs.Intervals.{interval_of}
use Rattle.streetmap_moment.specs.Views.{interval_value}
use Rattle.streetmap_query.specs.declared.fault.QueryFault.{QueryFault}
use Rattle.streetmap_query.specs.declared.fault.QueryFault.TheVariants.{Memory, BadDatetime}
use Rattle.streetmap_query.specs.declared.datetimes.Datetime.{Datetime}
use Rattle.streetmap_query.specs.declared.queries.Parameters.{Parameters}
use Rattle.streetmap_query.specs.declared.queries.Query.{Query}
use Rattle.streetmap_query.specs.Parameters.{ParametersValue}
use Rattle.streetmap_query.specs.QueryValue.{DatetimeValue, QueryValue}

abbrev pub datetime_value : Datetime → DatetimeValue
datetime_value t = record { text = string_bytes t.text; interval = interval_value t.interval }

abbrev pub parameters_value : Parameters → ParametersValue
parameters_value p = record {
  bbox = option_map box_value p.bbox;
  datetime = option_map
      datetime_value p.datetime;
  limit = p.limit;
  after = p.after;
}

abbrev pub query_value : Query → QueryValue
query_value q = record {
  bbox = option_map box_value q.bbox;
  datetime = option_map datetime_value
      q.datetime;
  limit = q.limit;
  after = q.after;
}

-- what reading the value of `datetime` gave
abbrev pub DatetimeRead : Result Datetime QueryFault → List ℕ → Type 0
DatetimeRead (Ok t) text = (interval_of text ≡ Ok (interval_value t.interval))
    × (string_bytes t.text ≡ text)
DatetimeRead (Err Memory) text = Unit {0}
DatetimeRead (Err BadDatetime) text = IsErr (interval_of text)
DatetimeRead (Err _) text = ⊥
