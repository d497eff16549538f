-- What a contract sees of a moment and of an interval.
use Rattle.std.specs.Prelude.{Result, Ok, Err, Option, option_map, ℤ}
use Rattle.streetmap_moment.specs.declared.moments.Moment.{Moment}
use Rattle.streetmap_moment.specs.declared.intervals.Interval.{Interval}
use Rattle.streetmap_moment.specs.declared.faults.TimeFault.{TimeFault}
use Rattle.streetmap_moment.specs.IntervalValue.{IntervalValue}

-- the nanoseconds of a moment
abbrev pub moment_value : Moment → ℤ
moment_value m = m.nanoseconds

-- the nanoseconds of a moment that was read
abbrev pub moment_result : Result Moment TimeFault → Result ℤ TimeFault
moment_result (Ok m) = Ok (moment_value m)
moment_result (Err fault) = Err fault

-- the nanoseconds of the ends that are given
abbrev pub ends_value : Option Moment → Option Moment → IntervalValue
ends_value start end = record {
  start = option_map moment_value start;
  end = option_map moment_value
      end;
}

-- the ends of an interval
abbrev pub interval_value : Interval → IntervalValue
interval_value i = ends_value i.start i.end

-- the ends of an interval that was read
abbrev pub interval_result : Result Interval TimeFault → Result IntervalValue TimeFault
interval_result (Ok i) = Ok (interval_value i)
interval_result (Err fault) = Err fault
