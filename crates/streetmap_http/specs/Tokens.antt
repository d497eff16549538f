-- The token of a request: its field `Authorization` has it after the scheme `Bearer`. RFC 9110,
-- sections 11.4 and 11.6.2; RFC 6750, section 2.1.
use Rattle.std.specs.Prelude.{ℕ, List, not, ◌==◌, nat_lt, count_by, take, drop, codes}
use Rattle.std.specs.Prelude.{if◌then◌else◌, Option, None, Some, option_and_then, position}
use Rattle.streetmap_http.specs.Fields.{FieldValue, is_named, same_letters, first_value}

-- the text from the first byte that is no space on, if spaces come before it
abbrev pub from_place : List ℕ → Option ℕ → Option (List ℕ)
from_place text None = None
from_place text (Some at) = if nat_lt 0 at then Some (drop at text) else None

-- the text after one or more spaces
abbrev pub after_spaces : List ℕ → Option (List ℕ)
after_spaces text = from_place text (position (λ b. not (b == 32)) text)

-- the token of the credentials `Bearer TOKEN`: the scheme in any letter case, one or more spaces,
-- and the token
unfoldable pub bearer_token : List ℕ → Option (List ℕ)
bearer_token credentials =
    if same_letters (take 6 credentials) (codes "bearer") then after_spaces (drop 6 credentials)
    else None

-- that of the one field `Authorization`; none if the field is missing, comes more than once, or
-- has another scheme
unfoldable pub token_in : List FieldValue → Option (List ℕ)
token_in fields =
    if count_by (is_named (codes "authorization")) fields == 1
    then option_and_then bearer_token (first_value (codes "authorization") fields)
    else None
