-- The value of a feature's text, as a function of it: `IsReadAs` says which it is.
use Rattle.std.specs.Prelude.{◌≡◌, ℕ, suc, List, Bool, Option, Some, None, Result, Ok, Err}
use Rattle.std.specs.Prelude.{if◌then◌else◌}
use Rattle.json.specs.Json as json
use Rattle.serde_json.specs.Data.{Data, null, boolean, string, array, object, Items, no_items, item}
use Rattle.serde_json.specs.Data.{Members, no_members, put}
use Rattle.streetmap_decimal.specs.Axes.{shift_of}
use Rattle.streetmap_decimal.specs.Placements.{placed_text}
use Rattle.streetmap_decimal.specs.declared.axis.Axis.{Axis}
use Rattle.streetmap_decimal.specs.declared.placement.Placement.{Placement}
use Rattle.streetmap_json.specs.JsonText.{json_value}
use Rattle.streetmap_placing.specs.Placed.{value_or_fault, coordinate_or_fault, kept, items_count}
use Rattle.streetmap_placing.specs.Roles.{member_role, element_role}
use Rattle.streetmap_placing.specs.Text.{utf8_tree, is_requested}
use Rattle.streetmap_placing.specs.declared.fault.PlacingFault.{PlacingFault}
use Rattle.streetmap_placing.specs.declared.fault.PlacingFault.TheVariants.{Memory, NotJson}
use Rattle.streetmap_placing.specs.declared.fault.PlacingFault.TheVariants.{TooManyDigits}
use Rattle.streetmap_placing.specs.declared.fault.PlacingFault.TheVariants.{OutOfGrid, Fraction}
use Rattle.streetmap_placing.specs.declared.numbers.Numbers.{Numbers}
use Rattle.streetmap_placing.specs.declared.numbers.Fractions.{Fractions}
use Rattle.streetmap_placing.specs.declared.numbers.Fractions.TheVariants.{Number, Text}
use Rattle.streetmap_placing.specs.declared.role.Role.{Role}
use Rattle.streetmap_placing.specs.declared.role.Role.TheVariants.{Feature, Geometry, Geometries}
use Rattle.streetmap_placing.specs.declared.role.Role.TheVariants.{Coordinates, Coordinate}
use Rattle.streetmap_placing.specs.declared.role.Role.TheVariants.{Properties, Other}

-- a step and the next, which continues with the result of the first; the first fault ends both
infixl 10 ◌>>=◌
abbrev pub ◌>>=◌ : {A B : Type 0} → Result A PlacingFault → (A → Result B PlacingFault)
    → Result B PlacingFault
(Ok a) >>= next = next a
(Err f) >>= next = Err f

-- a coordinate, placed in the grid
abbrev pub placed_number : Placement → Axis → List ℕ → Result Data PlacingFault
placed_number p axis text =
    coordinate_or_fault (placed_text (shift_of axis p.shift) p.scale.count p.rounding text)

-- a number, read from its text alone
abbrev pub staying : List ℕ → Result Data PlacingFault
staying text = value_or_fault (json_value text)

-- a coordinate is placed if a placement is given, a number within properties is kept as the option
-- says, and every other number stays
abbrev pub number_by : Option Placement → Fractions → Role → List ℕ → Result Data PlacingFault
number_by None fractions (Coordinate axis) text = staying text
number_by (Some p) fractions (Coordinate axis) text = placed_number p axis text
number_by placement Number Properties text = staying text
number_by placement Text Properties text = Ok (kept text (json_value text))
number_by placement fractions Feature text = staying text
number_by placement fractions Geometry text = staying text
number_by placement fractions Geometries text = staying text
number_by placement fractions Coordinates text = staying text
number_by placement fractions Other text = staying text

-- each value from left to right; of the members with the same name the last is kept
abbrev mutual
  pub value_in : Numbers → Role → json.Json → Result Data PlacingFault
  value_in n role json.null = Ok null
  value_in n role (json.boolean b) = Ok (boolean b)
  value_in n role (json.number text) = number_by n.placement n.fractions role text
  value_in n role (json.string s) = Ok (string s)
  value_in n role (json.array js) =
      items_in n role (items_count js) 0 js >>= λ found. Ok (array found)
  value_in n role (json.object ms) = members_in n role ms no_members >>= λ found. Ok (object found)

  -- the elements, from that index on, of an array of `count` elements
  pub items_in : Numbers → Role → (count index : ℕ) → json.Items → Result Items PlacingFault
  items_in n role count index json.no_items = Ok no_items
  items_in n role count index (json.item j js) =
      value_in n (element_role role count index) j >>= λ d.
      (items_in n role count (suc index) js >>= λ found. Ok (item d found))

  -- the members, put among those found
  pub members_in : Numbers → Role → json.Members → (found : Members) → Result Members PlacingFault
  members_in n role json.no_members found = Ok found
  members_in n role (json.member name j ms) found =
      value_in n (member_role role name) j >>= λ d. members_in n role ms (put name d found)

-- the value of a feature, or `NotJson` if the text has none
abbrev pub value_of_tree : Numbers → Option json.Json → Result Data PlacingFault
value_of_tree n None = Err NotJson
value_of_tree n (Some j) = value_in n Feature j

abbrev pub value_by : Bool → Numbers → List ℕ → Result Data PlacingFault
value_by requested n text = if requested then value_of_tree n (utf8_tree text) else staying text

-- the value of a feature's text if the options change anything, otherwise that of the JSON text
unfoldable pub value_of : Numbers → List ℕ → Result Data PlacingFault
value_of n text = value_by (is_requested n.placement n.fractions) n text

-- the result is the expected one, unless memory ran out
abbrev pub Gives : {X Y : Type 0} → (X → Y) → Result X PlacingFault → Result Y PlacingFault
    → Type 0
Gives view (Ok x) requested = requested ≡ Ok (view x)
Gives view (Err Memory) requested = Unit {0}
Gives view (Err NotJson) requested = requested ≡ Err NotJson
Gives view (Err TooManyDigits) requested = requested ≡ Err TooManyDigits
Gives view (Err OutOfGrid) requested = requested ≡ Err OutOfGrid
Gives view (Err Fraction) requested = requested ≡ Err Fraction
