-- What the names in a batch may be.
use Rattle.std.specs.Prelude.{ℕ, Bool, false, ◌&&◌, ◌||◌, ◌==◌, [], ◌∷◌, codes, length, nat_le}
use Rattle.std.specs.Prelude.{Option, None, Some, if◌then◌else◌}
use Rattle.std.specs.List.{list_all, list_any}
use Rattle.std.specs.Char.{is_ascii_alphanumeric}
use Rattle.streetmap_geojson.specs.Id.{has_no_controls}
use Rattle.streetmap_batch.specs.Text.{Text}

-- the text has from `least` to `most` bytes
abbrev pub is_long : ℕ → ℕ → Text → Bool
is_long least most text = nat_le least (length text) && nat_le (length text) most

-- an ASCII letter, a digit, or one of `.` `_` `-`
abbrev pub is_id_byte : ℕ → Bool
is_id_byte b = is_ascii_alphanumeric b || list_any (λ c. c == b) (codes "._-")

-- a letter or a digit, or one of `.` `_` `-` `:`
abbrev pub is_key_byte : ℕ → Bool
is_key_byte b = is_id_byte b || (b == 58)

-- 1 to 64 such bytes
unfoldable pub is_key : Text → Bool
is_key text = is_long 1 64 text && list_all is_key_byte text

abbrev pub begins_alphanumeric : Text → Bool
begins_alphanumeric [] = false
begins_alphanumeric (b ∷ bs) = is_ascii_alphanumeric b

-- 1 to 64 letters, digits, or `.` `_` `-`, the first a letter or a digit
unfoldable pub is_collection_id : Text → Bool
is_collection_id text = is_long 1 64 text && (begins_alphanumeric text && list_all is_id_byte text)

-- at most 256 bytes without control characters
unfoldable pub is_title : Text → Bool
is_title text = nat_le (length text) 256 && has_no_controls text

-- the name of a member of properties: 1 to 128 bytes
unfoldable pub is_time_property : Text → Bool
is_time_property text = is_long 1 128 text

-- the text, if it passes the test
abbrev pub passing : (Text → Bool) → Text → Option Text
passing test text = if test text then Some text else None
