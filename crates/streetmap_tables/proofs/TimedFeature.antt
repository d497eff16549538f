-- A feature with the time that its collection's property gives.
use Rattle.std.proofs.Common.{◌≡◌, Option, Ok, Err, Result, option_map, refl, sym, ap}
use Rattle.streetmap_grid.specs.Extent.{extent_of}
use Rattle.streetmap_moment.specs.IntervalValue.{IntervalValue}
use Rattle.streetmap_moment.specs.Meeting.{seconds_of}
use Rattle.streetmap_moment.specs.declared.faults.TimeFault.{TimeFault}
use Rattle.streetmap_moment.specs.Views.{interval_value}
use Rattle.streetmap_moment.specs.declared.intervals.Interval.{Interval}
use Rattle.streetmap_geojson.specs.FeatureValue.{FeatureValue, retimed}
use Rattle.streetmap_geojson.specs.FeatureInvariant.{IsFeature}
use Rattle.streetmap_geojson.specs.Times.{time_of}
use Rattle.streetmap_geojson.proofs.Facts.{interval_made, retimed_is}
use Rattle.streetmap_batch.specs.Text.{Text}
use Rattle.streetmap_ledger.specs.State.{timed}
use Rattle.streetmap_rows.specs.Rows.{feature_text, extent_in, seconds_in}
use Rattle.streetmap_tables.specs.StoredFeatures.{IsTimed}

pub timed_as : (property : Option Text) (f : FeatureValue) (t : Option Interval) → IsFeature f → time_of property f.properties
    ≡ Ok (option_map interval_value t) → IsTimed property f (option_map seconds_of (option_map interval_value t))
unfolding feature_text extent_in seconds_in
timed_as property f t fact reported = record {
  kept = retimed f (option_map interval_value t);
  is = rw reported refl;
  fine = retimed_is f (option_map interval_value t) fact (interval_made t);
  named = refl;
  text_is = refl;
  extent_is = refl;
  seconds_are = refl;
}

pub extent_is : (f : FeatureValue) → option_map extent_of f.geometry ≡ extent_in f
unfolding extent_in
extent_is f = refl

-- a feature keeps its id with its time
pub same_id : (property : Option Text) (f g : FeatureValue) → timed property f ≡ Ok g → g.id ≡ f.id
same_id property f g h = go (time_of property f.properties) refl
  where
    go : (r : Result (Option IntervalValue) TimeFault) → time_of property f.properties ≡ r → g.id ≡ f.id
    go (Ok t) is = let e = rw is at h in let same : retimed f t ≡ g = cc in ap (λ (x : FeatureValue). x.id) (sym same)
    go (Err fault) is = absurd (let e = rw is at h in cc)
