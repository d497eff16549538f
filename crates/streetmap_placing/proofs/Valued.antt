-- Each text is read as its value.
use Rattle.std.proofs.Common.{◌≡◌, Bool, true, false, inl, inr, ℕ, suc, List, Option, Some, None, Result, Ok, Err, refl}
use Rattle.json.specs.Json as json
use Rattle.serde_json.specs.Data.{Data, array, object, item, Members, no_members, put}
use Rattle.streetmap_decimal.specs.Axes.{shift_of}
use Rattle.streetmap_decimal.specs.Placements.{placed_text}
use Rattle.streetmap_decimal.specs.declared.axis.Axis.{Axis}
use Rattle.streetmap_decimal.specs.declared.placement.Placement.{Placement}
use Rattle.streetmap_decimal.proofs.Placed.{placed_is}
use Rattle.streetmap_placing.specs.Placed.{Then, Made, Answers, IsPlacedCoordinate, NumberBy, Becomes, ItemsBecome, MembersBecome, items_count}
use Rattle.streetmap_placing.specs.Roles.{member_role, element_role}
use Rattle.streetmap_placing.specs.Text.{IsReadAs, ReadsBy, TextBecomes, is_requested, utf8_tree}
use Rattle.streetmap_placing.specs.Value.{◌>>=◌, placed_number, number_by, value_in, items_in, members_in, value_of_tree, value_by, value_of, Gives}
use Rattle.streetmap_placing.specs.declared.fault.PlacingFault.{PlacingFault}
use Rattle.streetmap_placing.specs.declared.fault.PlacingFault.TheVariants.{Memory, NotJson, TooManyDigits, OutOfGrid, Fraction}
use Rattle.streetmap_placing.specs.declared.numbers.Numbers.{Numbers}
use Rattle.streetmap_placing.specs.declared.numbers.Fractions.{Fractions}
use Rattle.streetmap_placing.specs.declared.numbers.Fractions.TheVariants.{Number, Text}
use Rattle.streetmap_placing.specs.declared.role.Role.{Role}
use Rattle.streetmap_placing.specs.declared.role.Role.TheVariants.{Feature, Geometry, Geometries, Coordinates, Coordinate, Properties, Other}
use Rattle.streetmap_placing.proofs.Once.{read_once}

-- two steps, if each satisfies its own relation
then_is : {A B : Type 0} (First : Result A PlacingFault → Type 0)
    (Next : A → Result B PlacingFault → Type 0) (r : Result A PlacingFault)
    (next : A → Result B PlacingFault) → First r → ((a : A) → Next a (next a))
    → Then First Next (r >>= next)
then_is First Next (Ok a) next h k = then_next First Next a (next a) h (k a) where
  then_next : {A B : Type 0} (First : Result A PlacingFault → Type 0)
      (Next : A → Result B PlacingFault → Type 0) (a : A) (r : Result B PlacingFault)
      → First (Ok a) → Next a r → Then First Next r
  then_next First Next a (Ok b) h k = (a, (h, k))
  then_next First Next a (Err f) h k = inr (a, (h, k))
then_is First Next (Err f) next h k = inl h

made_is : {A B : Type 0} (make : A → B) (First : Result A PlacingFault → Type 0)
    (r : Result A PlacingFault) → First r → Made make First (r >>= λ a. Ok (make a))
made_is make First r h = then_is First (λ a s. s ≡ Ok (make a)) r (λ a. Ok (make a)) h (λ a. refl)

coordinate_is : (p : Placement) (axis : Axis) (text : List ℕ)
    → IsPlacedCoordinate p axis text (placed_number p axis text)
coordinate_is p axis text = (
  placed_text (shift_of axis p.shift) p.scale.count p.rounding text,
  (placed_is (shift_of axis p.shift) p.scale.count p.rounding text, refl),
)

number_is : (p : Option Placement) (f : Fractions) (role : Role) (text : List ℕ)
    → NumberBy p f role text (number_by p f role text)
number_is None f (Coordinate axis) text = refl
number_is (Some p) f (Coordinate axis) text = coordinate_is p axis text
number_is p Number Properties text = refl
number_is p Text Properties text = refl
number_is p f Feature text = refl
number_is p f Geometry text = refl
number_is p f Geometries text = refl
number_is p f Coordinates text = refl
number_is p f Other text = refl

mutual
  becomes_is : (n : Numbers) (role : Role) (j : json.Json) → Becomes n role j (value_in n role j)
  becomes_is n role json.null = refl
  becomes_is n role (json.boolean b) = refl
  becomes_is n role (json.number text) = number_is n.placement n.fractions role text
  becomes_is n role (json.string s) = refl
  becomes_is n role (json.array js) =
      made_is array (ItemsBecome n role (items_count js) 0 js) (items_in n role (items_count js) 0 js)
      (items_are n role (items_count js) 0 js)
  becomes_is n role (json.object ms) =
      made_is object (MembersBecome n role ms no_members) (members_in n role ms no_members)
      (members_are n role ms no_members)

  items_are : (n : Numbers) (role : Role) (count index : ℕ) (js : json.Items)
      → ItemsBecome n role count index js (items_in n role count index js)
  items_are n role count index json.no_items = refl
  items_are n role count index (json.item j js) =
      then_is (Becomes n (element_role role count index) j)
      (λ d. Made (item d) (ItemsBecome n role count (suc index) js))
      (value_in n (element_role role count index) j)
      (λ d. items_in n role count (suc index) js >>= λ found. Ok (item d found))
      (becomes_is n (element_role role count index) j)
      (λ d. made_is (item d) (ItemsBecome n role count (suc index) js)
      (items_in n role count (suc index) js) (items_are n role count (suc index) js))

  members_are : (n : Numbers) (role : Role) (ms : json.Members) (found : Members)
      → MembersBecome n role ms found (members_in n role ms found)
  members_are n role json.no_members found = refl
  members_are n role (json.member name j ms) found =
      then_is (Becomes n (member_role role name) j)
      (λ d. MembersBecome n role ms (put name d found))
      (value_in n (member_role role name) j) (λ d. members_in n role ms (put name d found))
      (becomes_is n (member_role role name) j) (λ d. members_are n role ms (put name d found))

tree_is : (n : Numbers) (o : Option json.Json) → TextBecomes n o (value_of_tree n o)
tree_is n None = refl
tree_is n (Some j) = becomes_is n Feature j

reads_by : (b : Bool) (n : Numbers) (text : List ℕ) → ReadsBy b n text (value_by b n text)
reads_by true n text = tree_is n (utf8_tree text)
reads_by false n text = refl

pub read_is : (n : Numbers) (text : List ℕ) → IsReadAs n text (value_of n text)
unfolding value_of
read_is n text = reads_by (is_requested n.placement n.fractions) n text

-- so what was answered is that value
pub given : {X : Type 0} (view : X → Data) (n : Numbers) (text : List ℕ)
    (result : Result X PlacingFault) → Answers view result (IsReadAs n text)
    → Gives view result (value_of n text)
given view n text (Ok x) h = read_once n text (value_of n text) (Ok (view x)) (read_is n text) h
given view n text (Err Memory) h = tt
given view n text (Err NotJson) h = read_once n text (value_of n text) (Err NotJson) (read_is n text) h
given view n text (Err TooManyDigits) h =
    read_once n text (value_of n text) (Err TooManyDigits) (read_is n text) h
given view n text (Err OutOfGrid) h =
    read_once n text (value_of n text) (Err OutOfGrid) (read_is n text) h
given view n text (Err Fraction) h =
    read_once n text (value_of n text) (Err Fraction) (read_is n text) h
