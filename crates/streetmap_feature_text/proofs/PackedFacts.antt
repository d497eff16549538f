-- A feature's text reads as that feature.
use Rattle.std.proofs.Common.{◌≡◌, ℕ, ℤ, ◌≤ℤ◌, List, None, Some, Ok, Option, ap, refl, ◌∙◌}
use Rattle.std.specs.Option.{ForSome}
use Rattle.serde_json.specs.Written.{compact_text}
use Rattle.streetmap_grid.specs.Values.{BoxValue}
use Rattle.streetmap_moment.specs.IntervalValue.{IntervalValue}
use Rattle.streetmap_moment.specs.Range.{IsMoment}
use Rattle.streetmap_geojson.specs.Fault.{◌>>=◌}
use Rattle.streetmap_geojson.specs.FeatureValue.{FeatureValue, untimed, retimed}
use Rattle.streetmap_geojson.specs.ParsedFeatures.{feature}
use Rattle.streetmap_feature_text.specs.Ends.{end_at, time_between}
use Rattle.streetmap_geojson.specs.FeatureInvariant.{IsFeature, IsIntervalIf}
use Rattle.streetmap_feature_text.specs.Packed.{feature_in_text, or_nothing, unpacked, IsPacked}
use Rattle.streetmap_feature_text.specs.declared.packed.Part.{Part}
use Rattle.streetmap_feature_text.specs.declared.packed_interval.PackedInterval.{PackedInterval}
use Rattle.streetmap_feature_text.specs.PackedIntervalView.{packed_interval_value}
use Rattle.streetmap_feature_text.specs.Written.{feature_data}
use Rattle.streetmap_feature_text.proofs.Again as again
use Rattle.streetmap_geojson.proofs.Wholes as wholes
use Rattle.streetmap_feature_text.proofs.WrittenFeatures.{text_is_json}

pub text_again : (f : FeatureValue) → IsFeature f → feature_in_text (compact_text (feature_data f)) ≡ Ok (untimed f)
text_again f h = ap (λ r. r >>= λ d. feature None d) (text_is_json f h) ∙ wholes.feature_again None None (feature_data f) (untimed f) (again.feature_again f h)

pub unpacked_again : (f : FeatureValue) (time : Option IntervalValue) → IsFeature f → unpacked (compact_text (feature_data f)) time ≡ retimed f time
unfolding unpacked
unpacked_again f time h = ap (λ r. retimed (or_nothing r) time) (text_again f h)

pub packed_text : (text : List ℕ) (extent : Option BoxValue) (id : Option Part) (h : IsPacked text extent id) → feature_in_text text ≡ Ok (untimed h.packed)
packed_text text extent id h = ap feature_in_text h.written ∙ text_again h.packed h.is

pub unpacked_of : (text : List ℕ) (time : Option IntervalValue) (f : FeatureValue) → feature_in_text text ≡ Ok f → unpacked text time ≡ retimed f time
unfolding unpacked
unpacked_of text time f is = ap (λ r. retimed (or_nothing r) time) is

pub packed_view : (text : List ℕ) (extent : Option BoxValue) (id : Option Part) (time : Option IntervalValue) (h : IsPacked text extent id) → unpacked text time ≡ retimed h.packed time
packed_view text extent id time h = unpacked_of text time (untimed h.packed) (packed_text text extent id h)

between_made : (a b : Option ℤ) → ForSome a IsMoment → ForSome b IsMoment → ForSome a (λ s. ForSome b (λ e. s ≤ℤ e)) → IsIntervalIf (time_between a b)
between_made None None h k order = tt
between_made (Some s) None h k order = record { bounded = refl; ordered = tt; start_in = h; end_in = k }
between_made (Some s) (Some e) h k order = record { bounded = refl; ordered = order s refl e refl; start_in = h; end_in = k }
between_made None (Some e) h k order = record { bounded = refl; ordered = tt; start_in = h; end_in = k }

pub packed_interval_made : (s : PackedInterval) → IsIntervalIf (packed_interval_value s)
packed_interval_made s = between_made (end_at s.start s.start_nanoseconds) (end_at s.end s.end_nanoseconds) s.start_in s.end_in s.ordered
