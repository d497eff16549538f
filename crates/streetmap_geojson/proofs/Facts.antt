-- What the types keep is true of the values that they represent.
use Rattle.std.proofs.Common.{Option, None, Some, option_map, IsTrue}
use Rattle.std.specs.Str.{is_utf8}
use Rattle.streetmap_grid.specs.declared.geometry.Geometry.{Geometry}
use Rattle.streetmap_grid.specs.Views.{geometry_value}
use Rattle.streetmap_grid.proofs.Facts.{geometry_facts}
use Rattle.streetmap_moment.specs.declared.intervals.Interval.{Interval}
use Rattle.streetmap_moment.specs.IntervalValue.{IntervalValue}
use Rattle.streetmap_moment.specs.Views.{interval_value}
use Rattle.streetmap_moment.proofs.IntervalFacts.{interval_facts}
use Rattle.streetmap_geojson.specs.FeatureValue.{FeatureValue, retimed}
use Rattle.streetmap_geojson.specs.Id.{is_id}
use Rattle.streetmap_geojson.specs.FeatureInvariant.{IsGeometryIf, IsIntervalIf, IsFeature, KeepsRules}

pub geometry_made : (o : Option Geometry) → IsGeometryIf (option_map geometry_value o)
geometry_made None = tt
geometry_made (Some g) = geometry_facts g

pub interval_made : (o : Option Interval) → IsIntervalIf (option_map interval_value o)
interval_made None = tt
interval_made (Some i) = interval_facts i

pub feature_made : (f : FeatureValue) → KeepsRules f → IsTrue (is_id f.id) → IsTrue (is_utf8 f.id) → IsGeometryIf f.geometry → IsIntervalIf f.time → IsFeature f
feature_made f rules named text made timed = record { named = named; text = text; made = made; few = rules.few; oriented = rules.oriented; kept = rules.kept; flat = rules.flat; whole = rules.whole; exact = rules.exact; timed = timed }

-- a feature with another time is one
pub retimed_is : (f : FeatureValue) (time : Option IntervalValue) → IsFeature f → IsIntervalIf time → IsFeature (retimed f time)
retimed_is f time h timed = record { named = h.named; text = h.text; made = h.made; few = h.few; oriented = h.oriented; kept = h.kept; flat = h.flat; whole = h.whole; exact = h.exact; timed = timed }
