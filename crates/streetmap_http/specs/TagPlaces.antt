-- The place of a byte in a list of tags, by where its tag begins.
use Rattle.std.specs.Prelude.{ℕ, ◌≤◌, List, Bool, false, ⊤, slice_range, Option, None, Some}
use Rattle.streetmap_http.specs.Tags as spec
use Rattle.streetmap_http.specs.Tags.{TagValue, is_same_tag, strong_tag}
use Rattle.streetmap_http.specs.declared.tags.Place.{Place}
use Rattle.streetmap_http.specs.declared.tags.Place.TheVariants.{Between, AfterLetter, AfterSlash}
use Rattle.streetmap_http.specs.declared.tags.Place.TheVariants.{Within, After}

-- the place of the byte at this index: of a tag came what lies before it
abbrev pub place_value : List ℕ → ℕ → Place → spec.Place
place_value list at Between = spec.between
place_value list at AfterLetter = spec.after_letter
place_value list at AfterSlash = spec.after_slash
place_value list at (Within weak start) = spec.within weak (slice_range list start at)
place_value list at After = spec.after

-- the tag begins at this index or before it
abbrev pub HasBegun : ℕ → Place → Type 0
HasBegun at (Within weak start) = start ≤ at
HasBegun at _ = ⊤

-- a tag was ended, and it is this one
abbrev pub is_ended_with : (weakly : Bool) → List ℕ → Option TagValue → Bool
is_ended_with weakly tag None = false
is_ended_with weakly tag (Some found) = is_same_tag weakly (strong_tag tag) found
