-- Pages, and reads of one feature and of a run of them. OGC 17-069, sections 7.15 and 7.16.
use Rattle.std.specs.Prelude.{ℕ, ◌-◌, ◌^◌, ◌&&◌, List, Option, None, Some, Bool, true, false}
use Rattle.std.specs.Prelude.{slice_get, filter, length, take, min, if◌then◌else◌, nat_lt}
use Rattle.std.specs.Option.{option_map, option_and_then}
use Rattle.std.specs.Ordering.{is_gt, is_ge, is_le}
use Rattle.std.specs.FinMap.{get, values}
use Rattle.streetmap_grid.specs.Values.{BoxValue, GeometryValue}
use Rattle.streetmap_grid.specs.Meeting.{geometry_meets}
use Rattle.streetmap_grid.specs.Extent.{extent_of, overlaps}
use Rattle.streetmap_moment.specs.IntervalValue.{IntervalValue}
use Rattle.streetmap_moment.specs.Meeting.{meets, seconds_overlap}
use Rattle.streetmap_geojson.specs.FeatureValue.{FeatureValue}
use Rattle.streetmap_query.specs.QueryValue.{QueryValue, DatetimeValue}
use Rattle.streetmap_batch.specs.Text.{Text, text_cmp}
use Rattle.streetmap_ledger.specs.State.{State, Collection}

-- what a page holds: its features, how many are selected, the last id if more follow, and how many
-- were examined
pub record PageValue : Type 0 where
  pub features : List FeatureValue
  pub matched : ℕ
  pub next : Option Text
  pub examined : ℕ

-- a test of what a feature has against a part of a query: a part that the query lacks excludes
-- nothing, and a feature that lacks what the query has is excluded
abbrev pub passes : {A B : Type 0} → (A → B → Bool) → Option A → Option B → Bool
passes test has None = true
passes test None (Some requested) = false
passes test (Some x) (Some requested) = test x requested

-- the interval of a `datetime`
abbrev pub requested_interval : QueryValue → Option IntervalValue
requested_interval q = option_map (λ (d : DatetimeValue). d.interval) q.datetime

-- whether the query selects the feature: its geometry meets the box, and its time the interval
abbrev pub selects : QueryValue → FeatureValue → Bool
selects q f = passes geometry_meets f.geometry q.bbox && passes meets f.time (requested_interval q)

-- the selected features, in order
abbrev pub selected : QueryValue → List FeatureValue → List FeatureValue
selected q fs = filter (selects q) fs

-- whether a geometry's extent overlaps the box
abbrev pub extent_overlaps : GeometryValue → BoxValue → Bool
extent_overlaps g b = overlaps (extent_of g) b

-- whether the feature is examined: its extent overlaps the box, and its seconds those of the
-- interval
abbrev pub is_candidate : QueryValue → FeatureValue → Bool
is_candidate q f = passes extent_overlaps f.geometry q.bbox
    && passes seconds_overlap f.time (requested_interval q)

-- the features that a page examines
abbrev pub candidates : QueryValue → List FeatureValue → List FeatureValue
candidates q fs = filter (is_candidate q) fs

-- whether the feature's id comes after this one, by bytes
abbrev pub comes_after : Option Text → FeatureValue → Bool
comes_after None f = true
comes_after (Some id) f = is_gt (text_cmp f.id id)

-- the features whose ids come after this one
abbrev pub following : Option Text → List FeatureValue → List FeatureValue
following after fs = filter (comes_after after) fs

-- the selected features after `after`
abbrev pub rest_of : QueryValue → List FeatureValue → List FeatureValue
rest_of q fs = following q.after (selected q fs)

-- the last one's id
abbrev pub last_id : List FeatureValue → Option Text
last_id fs = option_map (λ (f : FeatureValue). f.id) (slice_get fs (length fs - 1))

-- a count, as far as 64 bits can hold it
abbrev pub saturated : ℕ → ℕ
saturated n = min n (2 ^ 64 - 1)

-- the page of features in order of ids, of which this number were examined
abbrev pub page_of : QueryValue → ℕ → List FeatureValue → PageValue
page_of q examined fs =
    let rest = rest_of q fs in
    record {
      features = take q.limit rest;
      matched = saturated (length (selected q fs));
      next = if nat_lt q.limit (length rest) then last_id (take q.limit rest) else None;
      examined = saturated examined;
    }

-- the page of a collection
abbrev pub page_over : QueryValue → List FeatureValue → PageValue
page_over q fs = page_of q (length (candidates q fs)) fs

-- a page in a state: none if the collection does not exist
abbrev pub page_in : State → Text → QueryValue → Option PageValue
page_in s name q = option_map (λ (c : Collection). page_over q (values c.features))
    (get s.collections name)

-- a feature in a state: none if the collection does not exist, or the feature is not in it
abbrev pub feature_in : State → Text → Text → Option FeatureValue
feature_in s name id = option_and_then (λ (c : Collection).
    get c.features id) (get s.collections name)

-- whether the feature's id is between two in byte order, or is one of them
abbrev pub is_between : Text → Text → FeatureValue → Bool
is_between first last f = is_ge (text_cmp f.id first) && is_le (text_cmp f.id last)

-- the features of a collection whose ids are between two, or are one of them, in order of ids
abbrev pub run_of : Text → Text → Collection → List FeatureValue
run_of first last c = filter (is_between first last) (values c.features)

-- a run of features in a state: none if the collection does not exist
abbrev pub run_in : State → Text → Text → Text → Option (List FeatureValue)
run_in s name first last = option_map (run_of first last) (get s.collections name)
