-- What the log holds of a request.
use Rattle.std.specs.Prelude.{ℕ, List, [], Bool, ◌&&◌, not, nat_le, ◌==◌, length, Option, Some}
use Rattle.std.specs.Prelude.{None}
use Rattle.std.specs.List.{find, list_all}
use Rattle.std.specs.Str.Lines.{strip_carriage_return}
use Rattle.streetmap_http.specs.Lines.{line_texts, is_full}
use Rattle.streetmap_web.specs.declared.log.TheConstants.{MOST_LOGGED}

abbrev pub or_nothing : Option (List ℕ) → List ℕ
or_nothing None = []
or_nothing (Some text) = text

-- the request line: the first that is not empty (RFC 9112, section 2.2), without its end
abbrev pub request_line_of : List ℕ → List ℕ
request_line_of bytes = strip_carriage_return (or_nothing (find is_full (line_texts bytes)))

-- printable, and not a double quote
abbrev pub is_logged_byte : ℕ → Bool
is_logged_byte byte = nat_le 32 byte && nat_le byte 126 && not (byte == 34)

-- a line that is logged as it is
abbrev pub is_plain_text : List ℕ → Bool
is_plain_text line = (nat_le 1 (length line) && nat_le (length line) MOST_LOGGED)
    && list_all is_logged_byte line
