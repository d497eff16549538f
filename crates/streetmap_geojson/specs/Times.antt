-- The time of a feature: what is said by the property that its collection names.
use Rattle.std.specs.Prelude.{◌≡◌, ℕ, List, Option, None, Some, Result, Ok, Err}
use Rattle.serde_json.specs.Data.{Data, null, string}
use Rattle.serde_json.specs.Find.{get}
use Rattle.streetmap_moment.specs.declared.faults.TimeFault.{TimeFault}
use Rattle.streetmap_moment.specs.declared.faults.TimeFault.TheVariants as times
use Rattle.streetmap_moment.specs.IntervalText.{IsPropertyText}
use Rattle.streetmap_moment.specs.IntervalValue.{IntervalValue, IsInOrder}
use Rattle.streetmap_moment.specs.Intervals.{property_of}
use Rattle.streetmap_geojson.specs.declared.fault.Fault.{Fault}
use Rattle.streetmap_geojson.specs.declared.fault.Fault.TheVariants.{BadTime, EmptyInterval}
use Rattle.streetmap_geojson.specs.FeatureValue.{FeatureValue}

-- the interval that was read, as a time that is present
abbrev pub there : Result IntervalValue TimeFault → Result (Option IntervalValue) TimeFault
there (Ok i) = Ok (Some i)
there (Err f) = Err f

-- an absent or null property gives no time, a text the interval or the day that it reads as; any
-- other value is refused
abbrev pub time_from : Option Data → Result (Option IntervalValue) TimeFault
time_from None = Ok None
time_from (Some null) = Ok None
time_from (Some (string s)) = there (property_of s)
time_from (Some _) = Err times.BadTime

-- the time under the property of that name; none without a name
abbrev pub time_of : (time_property : Option (List ℕ)) → (properties : Data)
    → Result (Option IntervalValue) TimeFault
time_of None properties = Ok None
time_of (Some name) properties = time_from (get name properties)

-- the feature with its time set, or why it cannot be set
abbrev pub with_time : FeatureValue → Result (Option IntervalValue) TimeFault
    → Result FeatureValue TimeFault
with_time f (Ok t) = Ok (record
    { id = f.id; geometry = f.geometry; properties = f.properties; time = t })
with_time f (Err e) = Err e

abbrev pub timed : (time_property : Option (List ℕ)) → FeatureValue → Result FeatureValue TimeFault
timed time_property f = with_time f (time_of time_property f.properties)

-- a fault of a time as a fault of its feature
abbrev pub time_fault : TimeFault → Fault
time_fault times.BadTime = BadTime
time_fault times.EmptyInterval = EmptyInterval

abbrev pub as_fault : {A : Type 0} → Result A TimeFault → Result A Fault
as_fault (Ok a) = Ok a
as_fault (Err f) = Err (time_fault f)

-- ---- "reads as"

-- the time that a property says: a text, an interval whose start is not after its end
abbrev pub IsTimeFrom : Option Data → Option IntervalValue → Type 0
IsTimeFrom None time = time ≡ None
IsTimeFrom (Some null) time = time ≡ None
IsTimeFrom (Some (string s)) time = (i : IntervalValue) × IsPropertyText s i
    × IsInOrder i.start i.end × (time ≡ Some i)
IsTimeFrom (Some _) time = ⊥

-- the time under the property of that name
abbrev pub IsTimeOf : (time_property : Option (List ℕ)) → (properties : Data) → Option IntervalValue
    → Type 0
IsTimeOf None properties time = time ≡ None
IsTimeOf (Some name) properties time = IsTimeFrom (get name properties) time
