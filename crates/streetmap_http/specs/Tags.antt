-- Entity tags, and lists of them. RFC 9110, sections 5.6.1 and 8.8.3.
use Rattle.std.specs.Prelude.{ℕ, List, [], ◌∷◌, ◌++◌, Bool, true, false, ◌&&◌, ◌||◌, not, ◌==◌}
use Rattle.std.specs.Prelude.{nat_lt, bytes_eq, decimal, if◌then◌else◌, Option, None, Some}
use Rattle.std.specs.Prelude.{option_map, option_and_then}

-- an entity tag: whether it is weak, and what it has between its quotes
pub record TagValue : Type 0 where
  pub weak : Bool
  pub opaque : List ℕ

-- a byte that a tag may have between its quotes: no control, no space and no quote
abbrev pub is_tag_byte : ℕ → Bool
is_tag_byte b = nat_lt 32 b && (not (b == 34) && not (b == 127))

-- optional white space; section 5.6.3
abbrev pub is_space : ℕ → Bool
is_space b = (b == 32) || (b == 9)

-- where a byte of a list is: between the tags; after the letter or the slash of the mark W/ of a
-- weak tag; within a tag, of which this came; or after a tag, before the next comma
pub data Place : Type 0 where
  between : Place
  after_letter : Place
  after_slash : Place
  within : (weak : Bool) → (opaque : List ℕ) → Place
  after : Place

-- the next place between the tags: a list may have empty elements
abbrev pub from_between : ℕ → Option Place
from_between b =
    if is_space b || (b == 44) then Some between
    else (if b == 34 then Some (within false []) else (if b == 87 then Some after_letter else None))

-- the next place, if the byte may stand at this one
abbrev pub step : Place → ℕ → Option Place
step between b = from_between b
step after_letter b = if b == 47 then Some after_slash else None
step after_slash b = if b == 34 then Some (within true []) else None
step (within weak opaque) b =
    if b == 34 then Some after
    else (if is_tag_byte b then Some (within weak (opaque ++ b ∷ [])) else None)
step after b = if b == 44 then Some between else (if is_space b then Some after else None)

-- the tag that the byte ends, if it ends one
abbrev pub ended : Place → ℕ → Option TagValue
ended (within weak opaque) b = if b == 34 then Some (record { weak = weak; opaque = opaque })
    else None
ended _ b = None

-- a tag before others, if there is one
abbrev pub with_tag : Option TagValue → List TagValue → List TagValue
with_tag None tags = tags
with_tag (Some tag) tags = tag ∷ tags

-- whether a list may end at this place
abbrev pub is_end : Place → Bool
is_end between = true
is_end after = true
is_end _ = false

-- the tags of a list, the rest of which is this from this place on
unfoldable pub tags_from : Place → List ℕ → Option (List TagValue)
tags_from place [] = if is_end place then Some [] else None
tags_from place (b ∷ rest) = option_and_then (λ (next : Place).
    option_map (with_tag (ended place b)) (tags_from next rest)) (step place b)

-- the tags of a list; none if the text is no list of tags
abbrev pub tags_of : List ℕ → Option (List TagValue)
tags_of text = tags_from between text

-- the same tag: neither is weak, unless the comparison is weak; section 8.8.3.2
abbrev pub is_same_tag : (weakly : Bool) → TagValue → TagValue → Bool
is_same_tag weakly one other =
    (weakly || (not one.weak && not other.weak)) && bytes_eq one.opaque other.opaque

-- the strong tag with this text between its quotes
abbrev pub strong_tag : List ℕ → TagValue
strong_tag text = record { weak = false; opaque = text }

-- the tag of a number: its decimal digits
abbrev pub number_tag : ℕ → TagValue
number_tag n = strong_tag (decimal n)
