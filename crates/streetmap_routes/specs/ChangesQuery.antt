-- The query of a request for changes.
use Rattle.std.specs.Prelude.{ℕ, ◌^◌, List, [], ◌∷◌, length, Option, None, Some, is_some, Result}
use Rattle.std.specs.Prelude.{Bool, Ok, Err, codes, bytes_eq, nat_lt, ◌&&◌, if◌then◌else◌}
use Rattle.std.specs.Str.{all_ascii_digits}
use Rattle.std.specs.Str.Parse.{digits_value}
use Rattle.form_urlencoded.specs.Form.{raw_pairs}
use Rattle.streetmap_batch.specs.Text.{Text}
use Rattle.streetmap_query.specs.Limit.{limit_of}
use Rattle.streetmap_query.specs.Query.{decoded}
use Rattle.streetmap_query.specs.declared.fault.QueryFault.TheVariants.{UnknownParameter}
use Rattle.streetmap_query.specs.declared.fault.QueryFault.TheVariants.{RepeatedParameter, BadLimit}
use Rattle.streetmap_bodies.specs.declared.request_fault.RequestFault.{RequestFault}
use Rattle.streetmap_bodies.specs.declared.request_fault.RequestFault.TheVariants.{Query, BadSerial}

-- the parameters that were read so far, each absent until it occurs in the text
pub record ChangesValue : Type 0 where
  pub after : Option ℕ
  pub limit : Option ℕ

abbrev pub no_parameters : ChangesValue
no_parameters = record { after = None; limit = None }

-- the serial after which changes are requested, if none is given
abbrev pub default_serial : ℕ
default_serial = 0

-- the limit, if none is given
abbrev pub default_limit : ℕ
default_limit = 100

-- one digit or more, and nothing else
abbrev pub is_number : Text → Bool
is_number text = nat_lt 0 (length text) && all_ascii_digits text

-- a whole number in decimal that fits into 64 bits
unfoldable pub serial_of : Text → Option ℕ
serial_of text =
    if is_number text && nat_lt (digits_value 10 text) (2 ^ 64) then Some (digits_value 10 text)
    else None

-- a parameter that was given before is a fault, whatever its value is now
abbrev pub unless_given : {A B : Type 0} → Option A → Result B RequestFault → Result B RequestFault
unless_given given read = if is_some given then Err (Query RepeatedParameter) else read

abbrev pub serial_read : Option ℕ → ChangesValue → Result ChangesValue RequestFault
serial_read None q = Err BadSerial
serial_read (Some n) q = Ok (record q { after = Some n })

abbrev pub limit_read : Option ℕ → ChangesValue → Result ChangesValue RequestFault
limit_read None q = Err (Query BadLimit)
limit_read (Some n) q = Ok (record q { limit = Some n })

-- `after`: a serial
unfoldable pub set_after : ChangesValue → Text → Result ChangesValue RequestFault
set_after q value = unless_given q.after (serial_read (serial_of value) q)

-- `limit`: a whole number from 1; above 1000 it is 1000
unfoldable pub set_limit : ChangesValue → Text → Result ChangesValue RequestFault
set_limit q value = unless_given q.limit (limit_read (limit_of value) q)

-- one more pair of name and value; an unknown name is a fault
unfoldable pub with_pair : ChangesValue → (name value : Text) → Result ChangesValue RequestFault
with_pair q name value =
    if bytes_eq name (codes "after") then set_after q value
    else (if bytes_eq name (codes "limit") then set_limit q value else Err (Query UnknownParameter))

-- all pairs from left to right, after those that were read; or the first fault
abbrev pub with_pairs : Result ChangesValue RequestFault → List (Text × Text)
    → Result ChangesValue RequestFault
with_pairs (Err fault) pairs = Err fault
with_pairs (Ok q) [] = Ok q
with_pairs (Ok q) (pair ∷ pairs) = with_pairs (with_pair q pair.0 pair.1) pairs

-- the parameters of a query text, or of no text; URL Standard, 5.1: the pairs of a form
abbrev pub changes_of : Option Text → Result ChangesValue RequestFault
changes_of None = Ok no_parameters
changes_of (Some text) = with_pairs (Ok no_parameters) (decoded (raw_pairs text))
