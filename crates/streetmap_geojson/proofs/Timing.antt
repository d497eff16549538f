-- A time that is read is what the property says, and what it says is read.
use Rattle.std.proofs.Common.{◌≡◌, ℕ, List, Option, None, Some, Result, Ok, Err, refl, sym, ap, subst}
use Rattle.serde_json.specs.Data.{Data, null, boolean, number, string, array, object}
use Rattle.serde_json.specs.Find.{get}
use Rattle.streetmap_moment.specs.declared.faults.TimeFault.{TimeFault}
use Rattle.streetmap_moment.specs.IntervalValue.{IntervalValue}
use Rattle.streetmap_moment.specs.Intervals.{property_of}
use Rattle.streetmap_moment.proofs.PropertyFacts.{property_text_of, property_of_text}
use Rattle.streetmap_geojson.specs.FeatureInvariant.{IsIntervalIf}
use Rattle.streetmap_geojson.specs.Times.{there, time_from, time_of, as_fault, IsTimeFrom, IsTimeOf}

fault_ok : {A : Type 0} (r : Result A TimeFault) (a : A) → as_fault r ≡ Ok a → r ≡ Ok a
fault_ok (Ok x) a e = let same : x ≡ a = cc in ap (λ w. Ok w) same
fault_ok (Err f) a e = absurd cc

there_found : (r : Result IntervalValue TimeFault) (time : Option IntervalValue) → there r ≡ Ok time → (i : IntervalValue) × (r ≡ Ok i) × (time ≡ Some i)
there_found (Ok i) time e = let same : Some i ≡ time = cc in (i, refl, sym same)
there_found (Err f) time e = absurd cc

-- the interval that a text is read as is one, and the text says it
text_found : (s : List ℕ) (time : Option IntervalValue) → there (property_of s) ≡ Ok time → IsTimeFrom (Some (string s)) time × IsIntervalIf time
text_found s time e =
    let found = there_found (property_of s) time e in
    let says = property_text_of s found.0 found.1 in
    ((found.0, says.0, says.1.ordered, found.2), subst IsIntervalIf (sym found.2) says.1)

none_is : (time : Option IntervalValue) → (let none : Result (Option IntervalValue) TimeFault = Ok None in none) ≡ Ok time → time ≡ None
none_is time e = cc

from_found : (o : Option Data) (time : Option IntervalValue) → time_from o ≡ Ok time → IsTimeFrom o time
from_found None time e = none_is time e
from_found (Some null) time e = none_is time e
from_found (Some (string s)) time e = (text_found s time e).0
from_found (Some (boolean b)) time e = absurd cc
from_found (Some (number n)) time e = absurd cc
from_found (Some (array ds)) time e = absurd cc
from_found (Some (object ms)) time e = absurd cc

from_again : (o : Option Data) (time : Option IntervalValue) → IsTimeFrom o time → time_from o ≡ Ok time
from_again None time h = rw h refl
from_again (Some null) time h = rw h refl
from_again (Some (string s)) time h = rw (h.3) (ap there (property_of_text s h.0 h.1 h.2))
from_again (Some (boolean b)) time h = absurd h
from_again (Some (number n)) time h = absurd h
from_again (Some (array ds)) time h = absurd h
from_again (Some (object ms)) time h = absurd h

of_found : (time_property : Option (List ℕ)) (ps : Data) (time : Option IntervalValue) → time_of time_property ps ≡ Ok time → IsTimeOf time_property ps time
of_found None ps time e = none_is time e
of_found (Some name) ps time e = from_found (get name ps) time e

of_again : (time_property : Option (List ℕ)) (ps : Data) (time : Option IntervalValue) → IsTimeOf time_property ps time → time_of time_property ps ≡ Ok time
of_again None ps time h = rw h refl
of_again (Some name) ps time h = from_again (get name ps) time h

pub time_found : (time_property : Option (List ℕ)) (ps : Data) (time : Option IntervalValue) → as_fault (time_of time_property ps) ≡ Ok time → IsTimeOf time_property ps time
time_found time_property ps time e = of_found time_property ps time (fault_ok (time_of time_property ps) time e)

pub time_again : (time_property : Option (List ℕ)) (ps : Data) (time : Option IntervalValue) → IsTimeOf time_property ps time → as_fault (time_of time_property ps) ≡ Ok time
time_again time_property ps time h = ap as_fault (of_again time_property ps time h)

nothing_said : (time : Option IntervalValue) → time ≡ None → IsIntervalIf time
nothing_said time e = subst IsIntervalIf (sym e) tt

from_is : (o : Option Data) (time : Option IntervalValue) → time_from o ≡ Ok time → IsIntervalIf time
from_is None time e = nothing_said time (none_is time e)
from_is (Some null) time e = nothing_said time (none_is time e)
from_is (Some (string s)) time e = (text_found s time e).1
from_is (Some (boolean b)) time e = absurd cc
from_is (Some (number n)) time e = absurd cc
from_is (Some (array ds)) time e = absurd cc
from_is (Some (object ms)) time e = absurd cc

-- the time that a property gives is an interval
pub time_is : (time_property : Option (List ℕ)) (ps : Data) (time : Option IntervalValue) → time_of time_property ps ≡ Ok time → IsIntervalIf time
time_is None ps time e = nothing_said time (none_is time e)
time_is (Some name) ps time e = from_is (get name ps) time e
