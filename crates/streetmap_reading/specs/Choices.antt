-- What the statements of a page choose.
use Rattle.std.specs.Prelude.{◌≡◌, Bool, ◌&&◌, List, [], filter, Option, None, Some, Result}
use Rattle.std.specs.Prelude.{MatchResult}
use Rattle.std.specs.FinMap.{get, values}
use Rattle.std.specs.Option.{option_copied}
use Rattle.sqlite.specs.State.{State as Seen, IsUnchanged}
use Rattle.streetmap_grid.specs.Values.{BoxValue}
use Rattle.streetmap_moment.specs.IntervalValue.{IntervalValue}
use Rattle.streetmap_moment.specs.Meeting.{seconds_overlap}
use Rattle.streetmap_geojson.specs.FeatureValue.{FeatureValue}
use Rattle.streetmap_query.specs.QueryValue.{QueryValue}
use Rattle.streetmap_batch.specs.Text.{Text}
use Rattle.streetmap_ledger.specs.State.{State, Collection}
use Rattle.streetmap_ledger.specs.Pages.{passes, extent_overlaps, requested_interval}
use Rattle.streetmap_ledger.specs.Folds.{IsFoldOf}
use Rattle.streetmap_rows.specs.KeptStates.{Keeps}
use Rattle.streetmap_rows.specs.declared.fault.ReadFault.{ReadFault}
use Rattle.streetmap_reading.specs.declared.candidates.PageRows.{PageRows}
use Rattle.streetmap_rows.specs.TableReads.{Stopped}

-- the extent overlaps the box, and the seconds those of the interval, if a box or an interval is
-- given
abbrev pub is_chosen : Option BoxValue → Option IntervalValue → FeatureValue → Bool
is_chosen box interval f = passes extent_overlaps f.geometry box
    && passes seconds_overlap f.time interval

-- the chosen features of a collection, in order of ids
abbrev pub chosen_of : Option BoxValue → Option IntervalValue → Collection → List FeatureValue
chosen_of box interval c = filter (is_chosen box interval) (values c.features)

-- those that the box and the interval of a query choose
abbrev pub candidates_of : QueryValue → Collection → List FeatureValue
candidates_of q = chosen_of q.bbox (requested_interval q)

-- the chosen features of an existing collection, with the page's time property, were taken into the
-- page, in order of ids
abbrev pub TakesChosen : (Collection → List FeatureValue) → Text → PageRows → PageRows → Seen
    → Seen → Result (Unit {0}) ReadFault → Type 0
TakesChosen chosen name before after old new result =
    (q : QueryValue) (s : State) (c : Collection) → old.step_limit ≡ None → Keeps s old.now
    → get s.collections name ≡ Some c → c.time ≡ option_copied before.property
    → IsFoldOf q before.fold []
    → MatchResult result (λ _. IsFoldOf q after.fold (chosen c) × IsUnchanged old new)
    (Stopped old new)
