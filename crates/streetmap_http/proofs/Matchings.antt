-- What selections say of tags.
use Rattle.std.proofs.Common.{◌≡◌, ℕ, List, Bool, true, false, refl}
use Rattle.std.specs.Prelude.{Option, None, Some, option_map}
use Rattle.std.specs.List.{list_any}
use Rattle.streetmap_http.specs.Tags.{TagValue, is_same_tag, number_tag}
use Rattle.streetmap_http.specs.Preconditions.{Selection, unstated, any, tags, unreadable, listed, matching, matching_by, matching_found, is_read, is_readable}

-- lists, by whether they have the tag
pub lists_match : (weakly : Bool) (n : ℕ) (o : Option (List TagValue))
    → matching_found (option_map (list_any (is_same_tag weakly (number_tag n))) o) ≡ matching weakly n (listed o)
lists_match weakly n None = refl
lists_match weakly n (Some ts) = refl

read_by : (b : Bool) → is_read (matching_by b) ≡ true
read_by true = refl
read_by false = refl

-- whether a selection can be read is seen by any tag
pub read_so : (weakly : Bool) (n : ℕ) (s : Selection) → is_read (matching weakly n s) ≡ is_readable s
read_so weakly n unstated = refl
read_so weakly n any = refl
read_so weakly n (tags ts) = read_by (list_any (is_same_tag weakly (number_tag n)) ts)
read_so weakly n unreadable = refl
