use Rattle.std.specs.Prelude.{Option}
use Rattle.streetmap_moment.specs.IntervalValue.{IntervalValue}
use Rattle.streetmap_feature_text.specs.Ends.{end_at, time_between}
use Rattle.streetmap_feature_text.specs.declared.packed_interval.PackedInterval.{PackedInterval}

-- a span is seen as its time
abbrev pub packed_interval_value : PackedInterval → Option IntervalValue
packed_interval_value s = time_between (end_at s.start s.start_nanoseconds)
    (end_at s.end s.end_nanoseconds)
