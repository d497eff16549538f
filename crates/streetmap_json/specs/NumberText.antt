-- JSON texts in which a number with a fraction of only zeros represents the whole number before it.
use Rattle.std.specs.Prelude.{◌≢◌, ℕ, List, [], ◌∷◌, length, codes, Bool, true, false, ◌&&◌, ◌||◌}
use Rattle.std.specs.Prelude.{not, ◌==◌, nat_lt, if◌then◌else◌, bytes_eq}
use Rattle.std.specs.Char.{is_ascii_digit}
use Rattle.std.specs.List.{list_all, before_first, after_first, flat_map, onto_first}
use Rattle.json.specs.Ascii as ascii

-- ---- one number text (RFC 8259, section 6)

-- one digit or more
abbrev pub are_digits : List ℕ → Bool
are_digits s = nat_lt 0 (length s) && list_all is_ascii_digit s

-- digits, with or without a minus before them
abbrev pub are_signed_digits : List ℕ → Bool
are_signed_digits [] = false
are_signed_digits (b ∷ s) = if b == ascii.minus then are_digits s else are_digits (b ∷ s)

-- one zero or more
abbrev pub are_zeros : List ℕ → Bool
are_zeros s = nat_lt 0 (length s) && list_all (λ b. b == ascii.zero) s

abbrev pub is_dot : ℕ → Bool
is_dot b = b == ascii.dot

-- an optional minus, digits, a point and one zero or more, and no exponent
abbrev pub has_zero_fraction : List ℕ → Bool
has_zero_fraction s = are_signed_digits (before_first is_dot s) && are_zeros (after_first is_dot s)

-- a fraction of only zeros is left out with its point
abbrev pub without_fraction : List ℕ → List ℕ
without_fraction s = if has_zero_fraction s then before_first is_dot s else s

-- `-0` is `0`
abbrev pub unsigned_zero : List ℕ → List ℕ
unsigned_zero s = if bytes_eq s (codes "-0") then codes "0" else s

-- what a number text is read as; every other token stays as it is
unfoldable pub whole_text : List ℕ → List ℕ
whole_text s = unsigned_zero (without_fraction s)

-- ---- the tokens of a text

-- a byte of number texts: a digit, or one of + - . e E (RFC 8259, section 6)
abbrev pub is_in_number : ℕ → Bool
is_in_number b = is_ascii_digit b || (b == ascii.plus) || (b == ascii.minus) || (b == ascii.dot)
    || (b == ascii.lower_e) || (b == ascii.upper_e)

-- the side on which the text continues after a byte: outside of strings, within a string, or
-- within one after a backslash
pub data Side : Type 0 where
  outside : Side
  within : Side
  escaped : Side

-- a string runs from a quote to the next quote that no backslash escapes (RFC 8259, section 7)
abbrev pub side_after : Side → ℕ → Side
side_after outside b = if b == ascii.quote then within else outside
side_after within b = if b == ascii.quote then outside
    else (if b == ascii.backslash then escaped else within)
side_after escaped b = within

abbrev pub starts_number : List ℕ → Bool
starts_number [] = false
starts_number (b ∷ bs) = is_in_number b

-- whether the byte b and the next, with which bs begins on that side, are of one token: within a
-- string, and between two number bytes outside of strings
abbrev pub is_joined : Side → ℕ → List ℕ → Bool
is_joined outside b bs = is_in_number b && starts_number bs
is_joined within b bs = true
is_joined escaped b bs = true

abbrev pub put_before : Bool → ℕ → List (List ℕ) → List (List ℕ)
put_before joined b tokens = if joined then onto_first b tokens else (b ∷ []) ∷ tokens

-- the tokens of a text that begins on that side: strings with their quotes, longest runs of number
-- bytes outside of them, and every other byte alone
unfoldable pub tokens_from : Side → List ℕ → List (List ℕ)
tokens_from side [] = []
tokens_from side (b ∷ bs) = put_before (is_joined (side_after side b) b bs) b
    (tokens_from (side_after side b) bs)

-- the text with its number texts as they are read
abbrev pub with_whole_numbers : List ℕ → List ℕ
with_whole_numbers text = flat_map whole_text (tokens_from outside text)

-- ---- what each text that changes contains

abbrev pub starts_digit : List ℕ → Bool
starts_digit [] = false
starts_digit (b ∷ bs) = is_ascii_digit b

-- a zero after a point, or one after a minus with no digit after it
abbrev pub is_changing_zero : ℕ → ℕ → Bool → Bool
is_changing_zero before b digit_after =
    (b == ascii.zero) && (is_dot before || ((before == ascii.minus) && not digit_after))

-- such a zero anywhere, in a string or not
unfoldable pub may_change : List ℕ → Bool
may_change [] = false
may_change (b ∷ []) = false
may_change (a ∷ b ∷ bs) = is_changing_zero a b (starts_digit bs) || may_change (b ∷ bs)

-- ---- by grammar

-- the text between the quotes of a string: bytes that are neither a quote nor a backslash, and
-- backslashes, each with the byte that it escapes (RFC 8259, section 7)
pub data IsStringBody : List ℕ → Type 0 where
  empty : IsStringBody []
  unescaped : (b : ℕ) (s : List ℕ) → b ≢ ascii.quote → b ≢ ascii.backslash → IsStringBody s
      → IsStringBody (b ∷ s)
  escape : (b : ℕ) (s : List ℕ) → IsStringBody s → IsStringBody (ascii.backslash ∷ b ∷ s)
