-- What the values within a feature become.
use Rattle.std.specs.Prelude.{◌≡◌, ◌⊎◌, ℕ, suc, List, ℤ, Bool, false, Option, Some, None}
use Rattle.std.specs.Prelude.{option_map, unwrap_or, if◌then◌else◌, Result, Ok, Err}
use Rattle.json.specs.Json as json
use Rattle.serde_json.specs.Data.{Data, null, boolean, number, string, array, object, Items}
use Rattle.serde_json.specs.Data.{no_items, item, Members, no_members, put}
use Rattle.serde_json.specs.Find.{as_number, is_float, of_integer}
use Rattle.streetmap_decimal.specs.Axes.{shift_of}
use Rattle.streetmap_decimal.specs.Grid.{PlacesText}
use Rattle.streetmap_decimal.specs.declared.fault.DecimalFault.{DecimalFault}
use Rattle.streetmap_decimal.specs.declared.axis.Axis.{Axis}
use Rattle.streetmap_decimal.specs.declared.placement.Placement.{Placement}
use Rattle.streetmap_json.specs.JsonText.{json_value}
use Rattle.streetmap_placing.specs.Faults.{fault_of}
use Rattle.streetmap_placing.specs.Roles.{member_role, element_role}
use Rattle.streetmap_placing.specs.declared.fault.PlacingFault.{PlacingFault}
use Rattle.streetmap_placing.specs.declared.fault.PlacingFault.TheVariants.{Memory, NotJson}
use Rattle.streetmap_placing.specs.declared.fault.PlacingFault.TheVariants.{TooManyDigits}
use Rattle.streetmap_placing.specs.declared.fault.PlacingFault.TheVariants.{OutOfGrid, Fraction}
use Rattle.streetmap_placing.specs.declared.numbers.Numbers.{Numbers}
use Rattle.streetmap_placing.specs.declared.numbers.Fractions.{Fractions}
use Rattle.streetmap_placing.specs.declared.numbers.Fractions.TheVariants.{Number, Text}
use Rattle.streetmap_placing.specs.declared.role.Role.{Role}
use Rattle.streetmap_placing.specs.declared.role.Role.TheVariants.{Feature, Geometry, Geometries}
use Rattle.streetmap_placing.specs.declared.role.Role.TheVariants.{Coordinates, Coordinate}
use Rattle.streetmap_placing.specs.declared.role.Role.TheVariants.{Properties, Other}

-- ---- outcomes: a value, or the first fault

-- a step and the next, which continues with the result of the first; the first fault ends both
abbrev pub Then : {A B : Type 0} → (Result A PlacingFault → Type 0)
    → (A → Result B PlacingFault → Type 0) → Result B PlacingFault → Type 0
Then {A} First Next (Ok b) = (a : A) × (First (Ok a) × Next a (Ok b))
Then {A} First Next (Err f) = First (Err f) ⊎ ((a : A) × (First (Ok a) × Next a (Err f)))

-- the same, if the next step only converts the result of the first
abbrev pub Made : {A B : Type 0} → (A → B) → (Result A PlacingFault → Type 0)
    → Result B PlacingFault → Type 0
Made make First = Then First (λ a r. r ≡ Ok (make a))

-- the result is the outcome, unless memory ran out
abbrev pub Answers : {X Y : Type 0} → (X → Y) → Result X PlacingFault
    → (Result Y PlacingFault → Type 0) → Type 0
Answers view (Ok x) Outcome = Outcome (Ok (view x))
Answers view (Err Memory) Outcome = Unit {0}
Answers view (Err NotJson) Outcome = Outcome (Err NotJson)
Answers view (Err TooManyDigits) Outcome = Outcome (Err TooManyDigits)
Answers view (Err OutOfGrid) Outcome = Outcome (Err OutOfGrid)
Answers view (Err Fraction) Outcome = Outcome (Err Fraction)

-- ---- a number

-- a value, or none: not JSON
abbrev pub value_or_fault : Option Data → Result Data PlacingFault
value_or_fault None = Err NotJson
value_or_fault (Some d) = Ok d

-- a number of the grid, or its fault
abbrev pub coordinate_or_fault : Result ℤ DecimalFault → Result Data PlacingFault
coordinate_or_fault (Ok g) = Ok (number (of_integer g))
coordinate_or_fault (Err f) = Err (fault_of f)

-- a coordinate, placed in the grid
abbrev pub IsPlacedCoordinate : Placement → Axis → List ℕ → Result Data PlacingFault → Type 0
IsPlacedCoordinate p axis text r =
    (g : Result ℤ DecimalFault)
    × (PlacesText (shift_of axis p.shift) p.scale.count p.rounding text g
    × (r ≡ coordinate_or_fault g))

-- a number, read from its text alone
abbrev pub StaysAs : List ℕ → Result Data PlacingFault → Type 0
StaysAs text r = r ≡ value_or_fault (json_value text)

-- a number that is not whole, or too large for 64 bits
abbrev pub is_fraction : Data → Bool
is_fraction d = unwrap_or (option_map is_float (as_number d)) false

-- a whole number, and any other as its text
abbrev pub kept : List ℕ → Option Data → Data
kept text None = string text
kept text (Some d) = if is_fraction d then string text else d

abbrev pub KeptAs : List ℕ → Result Data PlacingFault → Type 0
KeptAs text r = r ≡ Ok (kept text (json_value text))

-- a coordinate is placed if a placement is given, a number within properties is kept as the option
-- says, and every other number stays
abbrev pub NumberBy : Option Placement → Fractions → Role → List ℕ
    → Result Data PlacingFault → Type 0
NumberBy None fractions (Coordinate axis) text = StaysAs text
NumberBy (Some p) fractions (Coordinate axis) text = IsPlacedCoordinate p axis text
NumberBy placement Number Properties text = StaysAs text
NumberBy placement Text Properties text = KeptAs text
NumberBy placement fractions Feature text = StaysAs text
NumberBy placement fractions Geometry text = StaysAs text
NumberBy placement fractions Geometries text = StaysAs text
NumberBy placement fractions Coordinates text = StaysAs text
NumberBy placement fractions Other text = StaysAs text

abbrev pub NumberBecomes : Numbers → Role → List ℕ → Result Data PlacingFault → Type 0
NumberBecomes n = NumberBy n.placement n.fractions

-- ---- a value

-- the number of elements
abbrev pub items_count : json.Items → ℕ
items_count json.no_items = 0
items_count (json.item j js) = suc (items_count js)

-- each value from left to right; of the members with the same name the last is kept
abbrev mutual
  pub Becomes : Numbers → Role → json.Json → Result Data PlacingFault → Type 0
  Becomes n role json.null = λ r. r ≡ Ok null
  Becomes n role (json.boolean b) = λ r. r ≡ Ok (boolean b)
  Becomes n role (json.number text) = NumberBecomes n role text
  Becomes n role (json.string s) = λ r. r ≡ Ok (string s)
  Becomes n role (json.array js) = Made array (ItemsBecome n role (items_count js) 0 js)
  Becomes n role (json.object ms) = Made object (MembersBecome n role ms no_members)

  -- the elements, from that index on, of an array of `count` elements
  pub ItemsBecome : Numbers → Role → (count index : ℕ) → json.Items
      → Result Items PlacingFault → Type 0
  ItemsBecome n role count index json.no_items = λ r. r ≡ Ok no_items
  ItemsBecome n role count index (json.item j js) =
      Then (Becomes n (element_role role count index) j)
      (λ d. Made (item d) (ItemsBecome n role count (suc index) js))

  -- the members, put among those found
  pub MembersBecome : Numbers → Role → json.Members → (found : Members)
      → Result Members PlacingFault → Type 0
  MembersBecome n role json.no_members found = λ r. r ≡ Ok found
  MembersBecome n role (json.member name j ms) found =
      Then (Becomes n (member_role role name) j)
      (λ d. MembersBecome n role ms (put name d found))
