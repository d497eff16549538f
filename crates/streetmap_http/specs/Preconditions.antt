-- What the fields of a head say of the tag of what is there. RFC 9110, sections 13.1.1 and 13.1.2.
use Rattle.std.specs.Prelude.{ℕ, List, [], ◌∷◌, ◌++◌, Bool, true, false, ◌&&◌, ◌==◌, count_by}
use Rattle.std.specs.Prelude.{codes, if◌then◌else◌, Option, None, Some, option_map}
use Rattle.std.specs.Prelude.{option_and_then, bytes_eq}
use Rattle.std.specs.List.{list_any}
use Rattle.streetmap_http.specs.Fields.{FieldValue, is_named, first_value}
use Rattle.streetmap_http.specs.Tags.{TagValue, tags_of, is_same_tag, number_tag, strong_tag}
use Rattle.streetmap_http.specs.declared.matching.Matching.{Matching}
use Rattle.streetmap_http.specs.declared.matching.Matching.TheVariants.{Unstated, Matches}
use Rattle.streetmap_http.specs.declared.matching.Matching.TheVariants.{Differs, Unreadable}

-- what the fields of one name list: they are not there; or `*`; or tags; or something else
pub data Selection : Type 0 where
  unstated : Selection
  any : Selection
  tags : List TagValue → Selection
  unreadable : Selection

-- tags, if they can be read
abbrev pub listed : Option (List TagValue) → Selection
listed None = unreadable
listed (Some ts) = tags ts

-- the tags of two lists, one after the other
abbrev pub both : Option (List TagValue) → Option (List TagValue) → Option (List TagValue)
both one other = option_and_then (λ (ts : List TagValue). option_map (λ (us : List TagValue).
    ts ++ us) other) one

-- before the tags of other fields those of this one, if it has the name; several fields of one
-- name are one list; section 5.3
abbrev pub with_field : Bool → FieldValue → Option (List TagValue) → Option (List TagValue)
with_field named field others = if named then both (tags_of field.1) others else others

-- the tags in the fields of this name
abbrev pub tags_in : List ℕ → List FieldValue → Option (List TagValue)
tags_in name [] = Some []
tags_in name (field ∷ fields) = with_field (is_named name field) field (tags_in name fields)

-- the value `*`
abbrev pub is_star : Option (List ℕ) → Bool
is_star None = false
is_star (Some value) = bytes_eq value (codes "*")

-- one field alone has this name, and its value is `*`
abbrev pub is_any : List ℕ → List FieldValue → Bool
is_any name fields = is_star (first_value name fields)
    && (count_by (is_named name) fields == 1)

-- what the fields of this name list
unfoldable pub selection_in : List ℕ → List FieldValue → Selection
selection_in name fields =
    if count_by (is_named name) fields == 0 then unstated
    else (if is_any name fields then any else listed (tags_in name fields))

-- what `If-Match` and `If-None-Match` list
pub record PreconditionsValue : Type 0 where
  pub if_match : Selection
  pub if_none_match : Selection

-- of these fields
abbrev pub preconditions_in : List FieldValue → PreconditionsValue
preconditions_in fields = record {
  if_match = selection_in (codes "if-match") fields;
  if_none_match = selection_in (codes "if-none-match") fields;
}

-- no condition
abbrev pub no_preconditions : PreconditionsValue
no_preconditions = record { if_match = unstated; if_none_match = unstated }

-- whether one of the tags is this one
abbrev pub matching_by : Bool → Matching
matching_by found = if found then Matches else Differs

-- the same of lists, if they can be read
abbrev pub matching_found : Option Bool → Matching
matching_found None = Unreadable
matching_found (Some found) = matching_by found

-- whether the field lists the strong tag with this text, if it has the name and is a list of tags
abbrev pub said_of : (weakly named : Bool) → List ℕ → FieldValue → Option Bool
said_of weakly named tag field =
    if named then option_map (list_any (is_same_tag weakly (strong_tag tag))) (tags_of field.1)
    else Some false

-- what a selection says of the tag of this number; `*` matches any
abbrev pub matching : (weakly : Bool) → ℕ → Selection → Matching
matching weakly n unstated = Unstated
matching weakly n any = Matches
matching weakly n (tags ts) = matching_by (list_any (is_same_tag weakly (number_tag n)) ts)
matching weakly n unreadable = Unreadable

-- `If-Match` compares tags strongly
abbrev pub if_match_of : ℕ → PreconditionsValue → Matching
if_match_of n conditions = matching false n conditions.if_match

-- `If-None-Match` compares them weakly
abbrev pub if_none_match_of : ℕ → PreconditionsValue → Matching
if_none_match_of n conditions = matching true n conditions.if_none_match

-- the fields could be read
abbrev pub is_read : Matching → Bool
is_read Unstated = true
is_read Matches = true
is_read Differs = true
is_read Unreadable = false

-- whether a selection can be read
abbrev pub is_readable : Selection → Bool
is_readable unstated = true
is_readable any = true
is_readable (tags ts) = true
is_readable unreadable = false

-- whether both can
abbrev pub are_readable : PreconditionsValue → Bool
are_readable conditions =
    is_readable conditions.if_match && is_readable conditions.if_none_match
