-- The bytes that a JSON string has unescaped. RFC 8259, section 7.
use Rattle.std.specs.Prelude.{ℕ, Bool, ◌&&◌, ◌==◌, not, nat_le}
use Rattle.json.specs.Ascii as ascii

-- no control character, quote or backslash
abbrev pub is_plain : ℕ → Bool
is_plain byte = nat_le 32 byte && (not (byte == ascii.quote) && not (byte == ascii.backslash))
