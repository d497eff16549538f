-- The parameters of a query, taken one pair of name and value at a time.
use Rattle.std.specs.Prelude.{ℕ, List, [], ◌∷◌, Option, Some, None, is_some, unwrap_or, Result, Ok}
use Rattle.std.specs.Prelude.{Err, if◌then◌else◌, codes}
use Rattle.std.specs.Str.{bytes_eq}
use Rattle.streetmap_grid.specs.Values.{BoxValue}
use Rattle.streetmap_moment.specs.Intervals.{interval_of}
use Rattle.streetmap_moment.specs.IntervalValue.{IntervalValue}
use Rattle.streetmap_geojson.specs.Id.{is_id}
use Rattle.streetmap_query.specs.declared.fault.QueryFault.{QueryFault}
use Rattle.streetmap_query.specs.declared.fault.QueryFault.TheVariants.{UnknownParameter}
use Rattle.streetmap_query.specs.declared.fault.QueryFault.TheVariants.{RepeatedParameter}
use Rattle.streetmap_query.specs.declared.fault.QueryFault.TheVariants.{BadLimit, BadBbox}
use Rattle.streetmap_query.specs.declared.fault.QueryFault.TheVariants.{BadDatetime, BadAfter}
use Rattle.streetmap_query.specs.Limit.{limit_of, default_limit}
use Rattle.streetmap_query.specs.Box.{box_of}
use Rattle.streetmap_query.specs.QueryValue.{DatetimeValue, QueryValue}

-- continues with a value, and ends at a fault
infixl 10 ◌>>=◌
abbrev pub ◌>>=◌ : {A B : Type 0} → Result A QueryFault → (A → Result B QueryFault)
    → Result B QueryFault
(Ok x) >>= f = f x
(Err e) >>= f = Err e

-- the parameters that were read so far, each absent until it occurs in the text
pub record ParametersValue : Type 0 where
  pub bbox : Option BoxValue
  pub datetime : Option DatetimeValue
  pub limit : Option ℕ
  pub after : Option (List ℕ)

abbrev pub no_parameters : ParametersValue
no_parameters = record { bbox = None; datetime = None; limit = None; after = None }

-- the query of the parameters: the limit is 10 if none was given
abbrev pub query_by : ParametersValue → QueryValue
query_by p = record {
  bbox = p.bbox;
  datetime = p.datetime;
  limit = unwrap_or p.limit default_limit;
  after = p.after;
}

-- a parameter that was given before is a fault, whatever its value is now
abbrev pub unless_given : {A B : Type 0} → Option A → Result B QueryFault → Result B QueryFault
unless_given given read = if is_some given then Err RepeatedParameter else read

abbrev pub limit_read : Option ℕ → ParametersValue → Result ParametersValue QueryFault
limit_read None p = Err BadLimit
limit_read (Some n) p = Ok (record p { limit = Some n })

abbrev pub bbox_read : Option BoxValue → ParametersValue → Result ParametersValue QueryFault
bbox_read None p = Err BadBbox
bbox_read (Some b) p = Ok (record p { bbox = Some b })

abbrev pub datetime_read : {E : Type 0} → List ℕ → Result IntervalValue E → ParametersValue
    → Result ParametersValue QueryFault
datetime_read text (Err e) p = Err BadDatetime
datetime_read text (Ok i) p = Ok
    (record p { datetime = Some (record { text = text; interval = i }) })

-- `limit`: a whole number from 1; above 1000 it is 1000
unfoldable pub set_limit : ParametersValue → List ℕ → Result ParametersValue QueryFault
set_limit p value = unless_given p.limit (limit_read (limit_of value) p)

-- `bbox`: a box
unfoldable pub set_bbox : ParametersValue → List ℕ → Result ParametersValue QueryFault
set_bbox p value = unless_given p.bbox (bbox_read (box_of value) p)

-- `datetime`: a moment or an interval of time
unfoldable pub set_datetime : ParametersValue → List ℕ → Result ParametersValue QueryFault
set_datetime p value = unless_given p.datetime (datetime_read value (interval_of value) p)

-- `after`: the id of a feature
unfoldable pub set_after : ParametersValue → List ℕ → Result ParametersValue QueryFault
set_after p value = unless_given p.after (if is_id value then Ok (record p { after = Some value })
    else Err BadAfter)

-- one more pair of name and value; OGC 17-069, 7.6: an unknown name is a fault
unfoldable pub with_pair : ParametersValue → List ℕ → List ℕ → Result ParametersValue QueryFault
with_pair p name value =
    if bytes_eq name (codes "limit") then set_limit p value
    else (if bytes_eq name (codes "bbox") then set_bbox p value
    else (if bytes_eq name (codes "datetime") then set_datetime p value
    else (if bytes_eq name (codes "after") then set_after p value else Err UnknownParameter)))

-- all pairs from left to right, or the first fault
unfoldable pub with_pairs : ParametersValue → List (List ℕ × List ℕ)
    → Result ParametersValue QueryFault
with_pairs p [] = Ok p
with_pairs p (pair ∷ pairs) = with_pair p pair.0 pair.1 >>= λ q. with_pairs q pairs
