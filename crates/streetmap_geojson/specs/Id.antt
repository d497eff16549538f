-- Ids of features: texts, and whole numbers as their decimal texts. RFC 7946 3.2: an id is text or
-- a number.
use Rattle.std.specs.Prelude.{ℕ, ℤ, Bool, ◌&&◌, List, length, Option, None, Some, Result, Ok, Err}
use Rattle.std.specs.Prelude.{nat_le, nat_lt, not, if◌then◌else◌, decimal}
use Rattle.std.specs.Char.{is_control}
use Rattle.std.specs.Fmt.{signed_decimal}
use Rattle.std.specs.List.{list_all}
use Rattle.std.specs.Str.{chars}
use Rattle.serde_json.specs.Data.{Data, number, string}
use Rattle.serde_json.specs.Find.{as_integer}
use Rattle.streetmap_geojson.specs.declared.fault.Fault.{Fault}
use Rattle.streetmap_geojson.specs.declared.fault.Fault.TheVariants.{BadId, Fraction}

-- no control characters, U+0000 to U+001F and U+007F to U+009F
abbrev pub has_no_controls : List ℕ → Bool
has_no_controls text = list_all (λ c. not (is_control c)) (chars text)

-- 1 to 128 bytes without control characters
abbrev pub is_id : List ℕ → Bool
is_id text = nat_lt 0 (length text) && (nat_le (length text) 128 && has_no_controls text)

abbrev pub text_id : List ℕ → Result (List ℕ) Fault
text_id s = if is_id s then Ok s else Err BadId

-- a whole number is its decimal text
abbrev pub number_id : Option ℤ → Result (List ℕ) Fault
number_id None = Err Fraction
number_id (Some z) = Ok (signed_decimal z)

-- the id that a value gives
abbrev pub id_from : Data → Result (List ℕ) Fault
id_from (string s) = text_id s
id_from (number n) = number_id (as_integer n)
id_from _ = Err BadId

-- the place of a feature in a collection, counted from 1, is its id if it has none; alone it has no
-- place
abbrev pub place_id : (place : Option ℕ) → Result (List ℕ) Fault
place_id None = Err BadId
place_id (Some n) = Ok (decimal n)

-- the id of a feature, from its member
abbrev pub id_of : (place : Option ℕ) → Option Data → Result (List ℕ) Fault
id_of place None = place_id place
id_of place (Some d) = id_from d
