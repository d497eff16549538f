-- The request of a line of input.
use Rattle.std.specs.Prelude.{◌≡◌, ℕ, false, List, ◌∷◌, ◌++◌, Option, Some, None, option_map}
use Rattle.std.specs.Prelude.{option_and_then, codes, length, nat_lt, IsUtf8, ◌==◌, if◌then◌else◌}
use Rattle.std.specs.List.{position_or_len, before_first, after_first, list_any}
use Rattle.std.specs.Str.{bytes_eq, is_utf8}
use Rattle.streetmap_batch.specs.Text.{Text}

pub data LineRequest : Type 0 where
  batch : (text : Text) → LineRequest
  page : (collection : Text) (query : Option Text) → LineRequest
  feature : (collection id : Text) → LineRequest

abbrev pub HasNoSpace : Text → Type 0
HasNoSpace text = list_any (λ b. b == 32) text ≡ false

-- how a request is spelled: its command, and its texts, each after one space
abbrev pub SpellsRequest : Text → LineRequest → Type 0
SpellsRequest line (batch text) = line ≡ codes "batch " ++ text
SpellsRequest line (page collection None) =
    (line ≡ codes "page " ++ collection) × HasNoSpace collection
SpellsRequest line (page collection (Some query)) =
    (line ≡ codes "page " ++ (collection ++ 32 ∷ query))
    × HasNoSpace collection × HasNoSpace query
SpellsRequest line (feature collection id) = (line ≡ codes "feature " ++ (collection ++ 32 ∷ id))
    × HasNoSpace collection

-- a line is UTF-8 text that spells a request
abbrev pub IsRequestLine : List ℕ → LineRequest → Type 0
IsRequestLine line request = IsUtf8 line × SpellsRequest line request

-- ---- the request of a text, if any

-- the text before the first space and the text after it
abbrev pub split_space : Text → Option (Text × Text)
split_space text =
    if nat_lt (position_or_len (λ b. b == 32) text) (length text)
    then Some (before_first (λ b. b == 32) text, after_first (λ b. b == 32) text)
    else None

-- a query holds no space
abbrev pub queried : Text → Text → Option (Text × Text) → Option LineRequest
queried collection query None = Some (page collection (Some query))
queried collection query (Some _) = None

abbrev pub requested_page : Text → Option (Text × Text) → Option LineRequest
requested_page text None = Some (page text None)
requested_page text (Some p) = queried p.0 p.1 (split_space p.1)

abbrev pub page_request_of : Text → Option LineRequest
page_request_of text = requested_page text (split_space text)

unfoldable pub request_by : Text → Text → Option LineRequest
request_by word text =
    if bytes_eq word (codes "batch") then Some (batch text)
    else (if bytes_eq word (codes "page") then page_request_of text
    else (if bytes_eq word (codes "feature")
    then option_map (λ p. feature p.0 p.1) (split_space text) else None))

abbrev pub request_of : Text → Option LineRequest
request_of line = option_and_then (λ p. request_by p.0 p.1) (split_space line)

-- the request of a line: none if it is not UTF-8 text
abbrev pub request_in : List ℕ → Option LineRequest
request_in line = if is_utf8 line then request_of line else None
